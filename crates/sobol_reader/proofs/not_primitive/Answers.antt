-- Only from degree 1 on is the test for a primitive polynomial asked. Assumes nothing.
use mathlib.Core.Path.{refl}
use native.Mathlib.Omega.{arith}
use borrow.Author.Tests.{eq-eqb, ne_eqb}
use Rattle.sobol_reader.proofs.not_primitive.Goals as goal

pub returns-then-d-eq0 : goal.returns-then-d-eq0
returns-then-d-eq0 c = rw (eq-eqb c.args.d 0 (omega arith)) refl

pub is_primitive-requires : goal.is_primitive-requires
is_primitive-requires c = (omega arith, omega arith, c.requires.1)

pub returns : goal.returns
returns c = rw (ne_eqb c.args.d 0 (λ e. omega arith), c.is_primitive.ensures) refl
