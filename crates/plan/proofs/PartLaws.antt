-- A field of the stream as the code finds it. Assumes nothing.
use mathlib.Core.Path.{◌≡◌, sym, ◌∙◌}
use mathlib.Core.Bool.{Bool, false}
use mathlib.Core.List.{List}
use Prim.Native.Nat.{ℕ, ◌+◌, ◌*◌, ◌^◌, ◌<◌, ◌≤◌}
use native.Mathlib.Omega.{arith}
use lib.Dec.{ltb}
use lib.ListN.{length, take, drop, length-drop}
use borrow.Author.Tests.{ltb-false}
use Rattle.bits.specs.Stream.{of_bits, bits_of, field_at}
use Rattle.bits.proofs.StreamLaws.{length_bits, field_lt}

-- one that is not short lies inside the bytes
pub long_field : (bytes : List ℕ) (at w : ℕ) {r : Bool} → at ≤ 8 * length bytes → r ≡ ltb (length (drop at (bits_of bytes))) w → r ≡ false → at + w ≤ 8 * length bytes
long_field bytes at w h e f =
    let k = ltb-false (length (drop at (bits_of bytes))) w (sym e ∙ f) in
    omega (arith, length-drop at (bits_of bytes), length_bits bytes)

module _ (bytes : List ℕ) (at w : ℕ) {v : ℕ} (e : v ≡ field_at bytes at w) where
  pub field_value : of_bits (take w (drop at (bits_of bytes))) ≡ v
  unfolding field_at
  field_value = sym e

  pub field_below : v < 2 ^ w
  field_below = rw e (field_lt bytes at w)
