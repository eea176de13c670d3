-- Points of a Sobol axis are linear in the index: the digits of a multiple of 2^k and of a number below 2^k don't overlap, so the first 2^k
-- points and one number give every later run of 2^k points. Assumes nothing.
use mathlib.Core.Path.{◌≡◌, sym, ap, ap₂, ◌∙◌}
use mathlib.Core.List.{List}
use Prim.Native.Nat.{ℕ, ◌*◌, ◌/◌, ◌^◌, ◌<◌}
use native.Mathlib.Omega.{arith}
use lib.Bits.{bit_xor, xor_shifted}
use Rattle.binary.specs.Gray.{gray}
use Rattle.binary.specs.Gf2.{combination}
use Rattle.binary.proofs.XorLaws.{xor_half, xor_swap}
use Rattle.binary.proofs.CombinationLaws.{combination_xor}
use Rattle.sobol.specs.Stepping.{stepped, jumped}
use Rattle.sobol.proofs.SteppingLaws.{jump_is_stepped}
use Rattle.columns.specs.Tiles.{Splits}
use Rattle.sobol_tables.specs.Tables.{Directions}

gray_xor : (a b : ℕ) → gray (bit_xor a b) ≡ bit_xor (gray a) (gray b)
gray_xor a b = ap (bit_xor (bit_xor a b)) (xor_half a b) ∙ xor_swap a b (a / 2) (b / 2)

module _ (vs : List ℕ) where
  stepped_xor : (a b : ℕ) → stepped vs (bit_xor a b) ≡ bit_xor (stepped vs a) (stepped vs b)
  unfolding jumped
  stepped_xor a b =
      sym (jump_is_stepped vs (bit_xor a b))
      ∙ ap (combination vs) (gray_xor a b)
      ∙ combination_xor vs (gray a) (gray b)
      ∙ ap₂ bit_xor (jump_is_stepped vs a) (jump_is_stepped vs b)

  pub stepped_splits : Splits bit_xor (stepped vs) 2
  stepped_splits = record { at = λ k q r h. ap (stepped vs) (sym (xor_shifted q k r h)) ∙ stepped_xor (q * 2 ^ k) r }

-- every point fits 32 bits
pub point_low : {vs : List ℕ} {x : ℕ} → Directions vs → (n : ℕ) → x ≡ stepped vs n → x < 2 ^ 32
point_low d n e = omega (arith, d.low n)
