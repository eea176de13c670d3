-- The decimal digits of a number, from the highest: each is the quotient by a power of ten, modulo ten, and the powers fall by a division.
-- Assumes nothing.
use mathlib.Core.Path.{◌≡◌, refl, sym, ap}
use Prim.Native.Nat.{ℕ, zero, suc, ◌+◌, ◌-◌, ◌/◌, ◌%◌, ◌^◌, ◌<◌, ◌≤◌, max}
use native.Mathlib.Nat.{pow-suc, mul-div_cancel}
use native.Mathlib.Omega.{arith}
use lib.ListN.{length, get_or}
use Rattle.numbers.specs.Digits.{digit_count}
use Rattle.numbers.proofs.DigitLaws.{digit_count_least, pow_pos, pow_up_to}
use Rattle.text.specs.Decimal.{decimal_digits}

-- how many digits there are
abbrev pub places : ℕ → ℕ
places n = max 1 (digit_count 10 n)

pub length_digits : (k n : ℕ) → length (decimal_digits k n) ≡ k
unfolding decimal_digits
length_digits zero n = refl
length_digits (suc k) n = ap suc (length_digits k n)

pub places_few : (n : ℕ) → n < 2 ^ 40 → places n ≤ 13
places_few n h = omega (arith, digit_count_least 10 n 13 (omega arith) (omega arith))

-- ---- the weight of the digit after the first i of k, which is 0 after the last

abbrev pub weight_of : ℕ → ℕ → ℕ
weight_of k i = 10 ^ (k - i) / 10

weight_of_lem : (k i j : ℕ) → k ≡ i + suc j → weight_of k i ≡ 10 ^ j
weight_of_lem k i j e =
    let d : k - i ≡ suc j = omega arith in
    rw (d, pow-suc 10 j) (mul-div_cancel (10 ^ j) (omega arith))

pub weight_fits : (k : ℕ) → k ≤ 20 → 10 ^ (k - 1) < 2 ^ 64
weight_fits k h = omega (arith, pow_up_to 10 {j = k - 1} {k = 19} (omega arith) (omega arith))

pub weight_first : (k : ℕ) → 1 ≤ k → 10 ^ (k - 1) ≡ weight_of k 0
weight_first k h = sym (weight_of_lem k 0 (k - 1) (omega arith))

module _ (k i : ℕ) (h : i < k) where
  weight_is : weight_of k i ≡ 10 ^ (k - (i + 1))
  weight_is = weight_of_lem k i (k - (i + 1)) (omega arith)

  pub weight_pos : 0 < weight_of k i
  weight_pos = rw weight_is (pow_pos 10 (k - (i + 1)) (omega arith))

  pub weight_next : weight_of k i / 10 ≡ weight_of k (i + 1)
  weight_next = ap (λ (x : ℕ). x / 10) weight_is

-- ---- that digit

pub digit_at : (k n i : ℕ) → i < k → 48 + n / weight_of k i % 10 ≡ get_or (decimal_digits k n) i 0
unfolding decimal_digits
digit_at zero n i h = absurd (omega arith)
digit_at (suc k) n zero h = rw (weight_of_lem (suc k) 0 k (omega arith)) refl
digit_at (suc k) n (suc i) h =
    let e : suc k - suc i ≡ k - i = omega arith in
    rw e (digit_at k n i (omega arith))
