-- A colon first, and then commas. Assumes nothing.
use Rattle.plan_text.proofs.WordLaws.{first_mark, later_mark}
use native.Mathlib.Omega.{arith}
use Rattle.plan_text.proofs.mark_at.Goals as goal

pub returns-then-k-eq0 : goal.returns-then-k-eq0
returns-then-k-eq0 c = first_mark _ (omega arith)

pub returns-else-k-eq0 : goal.returns-else-k-eq0
returns-else-k-eq0 c = later_mark _ (λ e. omega arith)
