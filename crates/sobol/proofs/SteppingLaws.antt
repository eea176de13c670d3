-- The jump is the stepping rule at every index: one step changes one digit of the Gray code, and that digit picks one direction number.
-- Assumes nothing.
use mathlib.Core.Path.{◌≡◌, sym, ap, ap₂, ◌∙◌}
use mathlib.Core.List.{List}
use Prim.Native.Nat.{ℕ, zero, suc, ◌+◌, ◌-◌, ◌^◌, ◌<◌}
use native.Mathlib.Omega.{arith}
use native.Mathlib.Numerals.{add-one}
use lib.Count.{count_trailing_zeros}
use lib.ListN.{get_or}
use lib.Pow.{pow_pos}
use lib.Bits.{bit_xor, xor_lt}
use Rattle.binary.specs.Gray.{right_zero, gray}
use Rattle.binary.specs.Gf2.{combination}
use Rattle.binary.proofs.GrayLaws.{gray_step, right_zero_lt, trailing_zeros_of_complement}
use Rattle.binary.proofs.CombinationLaws.{combination_xor, combination_zero, combination_pow}
use Rattle.sobol.specs.Stepping.{stepped, jumped}

pub jump_is_stepped : (vs : List ℕ) (n : ℕ) → jumped vs n ≡ stepped vs n
unfolding jumped stepped
jump_is_stepped vs zero = combination_zero vs
jump_is_stepped vs (suc n) =
    ap (jumped vs) (sym (add-one n)) ∙ ap (combination vs) (gray_step n) ∙ combination_xor vs (gray n) (2 ^ right_zero n)
    ∙ ap₂ bit_xor (jump_is_stepped vs n) (combination_pow vs (right_zero n))

-- points stay below a power of two that the direction numbers stay below
pub stepped_lt : (k : ℕ) (vs : List ℕ) → ((j : ℕ) → get_or vs j 0 < 2 ^ k) → (n : ℕ) → stepped vs n < 2 ^ k
unfolding stepped
stepped_lt k vs h zero = pow_pos k
stepped_lt k vs h (suc n) = xor_lt k (stepped vs n) (get_or vs (right_zero n) 0) (stepped_lt k vs h n) (h (right_zero n))

-- ---- a step from a 64-bit index below 2^32 - 1: the direction number that it picks

abbrev pub picked : ℕ → ℕ
picked n = count_trailing_zeros 64 (2 ^ 64 - 1 - n)

picked_is : (n : ℕ) → n + 1 < 2 ^ 32 → picked n ≡ right_zero n
picked_is n h = trailing_zeros_of_complement 64 n (omega arith)

pub picked_lt : (n : ℕ) → n + 1 < 2 ^ 32 → picked n < 32
picked_lt n h = rw (picked_is n h) (right_zero_lt 32 n h)

pub stepped_next : (vs : List ℕ) (n x : ℕ) → n + 1 < 2 ^ 32 → x ≡ stepped vs n → bit_xor x (get_or vs (picked n) 0) ≡ stepped vs (n + 1)
unfolding stepped
stepped_next vs n x h e = ap₂ (λ (y c : ℕ). bit_xor y (get_or vs c 0)) e (picked_is n h) ∙ ap (stepped vs) (sym (add-one n))
