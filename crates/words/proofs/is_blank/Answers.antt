-- A space, or else a tab. Assumes nothing.
use mathlib.Core.Path.{refl}
use borrow.Author.Tests.{eq-eqb, ne_eqb}
use Rattle.words.specs.Word.{is_blank}
use Rattle.words.proofs.is_blank.Goals as goal

pub returns-then-b-eq32 : goal.returns-then-b-eq32
unfolding is_blank
returns-then-b-eq32 c = rw (eq-eqb c.args.b 32 c.if-b-eq32.true) refl

pub returns : goal.returns
unfolding is_blank
returns c = rw (ne_eqb c.args.b 32 c.if-b-eq32.false) refl
