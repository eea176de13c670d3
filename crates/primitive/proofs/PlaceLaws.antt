-- The digits of an exponent from a place on, by those above the place and the digit there, which a mask tests. Assumes nothing.
use mathlib.Core.Path.{◌≡◌}
use Prim.Native.Nat.{ℕ, ◌+◌, ◌*◌, ◌/◌, ◌^◌}
use native.Mathlib.Omega.{arith}
use native.Mathlib.Nat.{add-sub_cancel}
use lib.Bits.{bit_and}
use Rattle.binary.proofs.PowerLaws.{digit_one, digit_zero}

pub place_one : (e n : ℕ) → bit_and (e / 2 ^ n) 1 ≡ 1 → e / 2 ^ n ≡ e / 2 ^ (n + 1) * 2 + 1
place_one e n = rw (add-sub_cancel n 1) at (digit_one e (n + 1) (omega arith))

pub place_zero : (e n : ℕ) → (bit_and (e / 2 ^ n) 1 ≡ 1 → ⊥) → e / 2 ^ n ≡ e / 2 ^ (n + 1) * 2
place_zero e n = rw (add-sub_cancel n 1) at (digit_zero e (n + 1) (omega arith))
