-- The product fits a word. Assumes nothing.
use mathlib.Core.Path.{refl}
use Prim.Native.Nat.{◌-◌, ◌^◌}
use native.Mathlib.Nat.{mul-le-mul}
use native.Mathlib.Omega.{arith}
use Rattle.numbers.proofs.raised.Goals as goal

pub overflow_mul-p : goal.overflow_mul-p
overflow_mul-p c = omega (arith, mul-le-mul {n₁ = c.args.w} {m₁ = c.args.s} {n₂ = 2 ^ 32 - 1} {m₂ = 2 ^ 16} (omega arith) (omega arith))

pub returns-then-p-lt-INDEXES : goal.returns-then-p-lt-INDEXES
returns-then-p-lt-INDEXES c = ((λ _. refl), λ g. absurd (omega arith))

pub returns-else-p-lt-INDEXES : goal.returns-else-p-lt-INDEXES
returns-else-p-lt-INDEXES c = ((λ l. absurd (omega arith)), λ _. refl)
