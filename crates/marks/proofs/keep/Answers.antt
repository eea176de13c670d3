-- `marks::keep` meets its contract: one law a return. Assumes nothing.
use native.Mathlib.Omega.{arith}
use Rattle.marks.proofs.MarkLaws.{keep_yes, keep_no}
use Rattle.marks.proofs.keep.Goals as goal

pub returns-then-x-limit : goal.returns-then-x-limit
returns-then-x-limit c = let a = c.args in keep_yes a.x a.limit a.f (omega arith)

pub returns-else-x-limit : goal.returns-else-x-limit
returns-else-x-limit c = let a = c.args in keep_no a.x a.limit a.f (omega arith)
