-- `index_calls::slot_of` meets its contract: the slot is computed as it is defined, and the product fits a word. Assumes nothing.
use Prim.Native.Nat.{◌-◌, ◌^◌}
use native.Mathlib.Nat.{mul-le-mul}
use native.Mathlib.Omega.{arith}
use borrow.Author.Rules.{rules}
use Rattle.index_calls.proofs.slot_of.Goals as goal

pub overflow_mul-result : goal.overflow_mul-result
overflow_mul-result c = let a = c.args in omega (arith, mul-le-mul {n₁ = a.x} {m₁ = a.slots} {n₂ = 2 ^ 40 - 1} {m₂ = 2 ^ 24} (omega arith) (omega arith))
