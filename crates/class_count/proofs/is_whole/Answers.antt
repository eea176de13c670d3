-- `class_count::is_whole` meets its contract. Assumes nothing.
use mathlib.Core.Bool.{false≢true}
use native.Mathlib.Omega.{arith}
use borrow.Author.Tests.{ltb-true, ltb-false}
use Rattle.class_count.proofs.is_whole.Goals as goal

pub returns-then-d-first : goal.returns-then-d-first
returns-then-d-first c = (λ e. absurd (false≢true e), λ e h. omega arith)

pub returns : goal.returns
returns c = (λ e. (omega arith, ltb-true _ _ e), λ e h. ltb-false _ _ e)
