-- The word 2^d of a degree up to 12. Assumes nothing.
use mathlib.Core.Path.{◌≡◌, ◌∙◌}
use Prim.Native.Nat.{ℕ, ◌*◌, ◌%◌, ◌^◌, ◌≤◌}
use native.Mathlib.Omega.{arith}
use native.Mathlib.Nat.{one-mul, le_refl}
use lib.Pow.{shl_exact, pow_mono}

pub top_is : (d : ℕ) → d ≤ 12 → 1 * 2 ^ d % 2 ^ 64 ≡ 2 ^ d
top_is d h = shl_exact 1 d 64 (le_refl 2) (omega arith) ∙ one-mul (2 ^ d)

pub at_most : (d : ℕ) → d ≤ 12 → 2 ^ d ≤ 4096
at_most d h = pow_mono {i = d} {j = 12} h
