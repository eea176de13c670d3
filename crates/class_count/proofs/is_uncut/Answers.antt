-- `class_count::is_uncut` meets its contract. Assumes nothing.
use mathlib.Core.Bool.{false≢true}
use borrow.Author.Tests.{eqb-true}
use Rattle.class_count.proofs.is_uncut.Goals as goal

pub returns-then-v-eq0 : goal.returns-then-v-eq0
returns-then-v-eq0 c = λ e. (c.if-v-eq0.true, eqb-true c.args.u c.args.q e)

pub returns : goal.returns
returns c = λ e. absurd (false≢true e)
