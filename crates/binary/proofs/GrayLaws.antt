-- The rightmost zero digit and the Gray code, by halves. One step of the index changes one digit of its Gray code, at the place of the index's
-- rightmost zero digit, which the trailing zeros of the complement count. Assumes nothing.
use mathlib.Core.Path.{◌≡◌, refl, sym, ap, ap₂, ◌∙◌}
use mathlib.Core.Logic.{⊎_elim}
use Prim.Native.Nat.{ℕ, zero, suc, ◌+◌, ◌-◌, ◌*◌, ◌/◌, ◌%◌, ◌^◌, ◌≤◌, ◌<◌}
use native.Mathlib.Omega.{arith}
use native.Mathlib.Nat.{not-suc-le-zero, le_refl, pow-suc, zero-lt-suc, div-one, div-div-eq-div-mul, mul_comm, zero-div, mod-one}
use native.Mathlib.Decide.{le_ind}
use lib.Arith.{bin_ind, half_le, lt-one, mod-mul}
use lib.Pow.{pow_pos}
use lib.Count.{count_trailing_zeros, under}
use lib.Bits.{bit_xor, xor_zero_r}
use Rattle.binary.specs.Gray.{past, right_zero_in, right_zero, gray}
use Rattle.numbers.proofs.Cases.{even_or_odd}
use Rattle.binary.proofs.XorLaws.{eq_halves, xor_half, xor_odd}

-- ---- the rightmost zero digit, by halves

more_digits : (f n : ℕ) → n ≤ f → right_zero_in (suc f) n ≡ right_zero_in f n
unfolding right_zero_in
more_digits zero zero h = refl
more_digits zero (suc n) h = absurd (not-suc-le-zero h)
more_digits (suc f) zero h = refl
more_digits (suc f) (suc n) h = ap (past (suc n % 2)) (more_digits f (suc n / 2) (half_le h))

enough_digits : (f n : ℕ) → n ≤ f → right_zero_in f n ≡ right_zero_in n n
enough_digits f n h = le_ind (λ (m : ℕ). right_zero_in m n ≡ right_zero_in n n) refl (λ m k e. more_digits m n k ∙ e) f h

pub right_zero_step : (n : ℕ) → right_zero n ≡ past (n % 2) (right_zero (n / 2))
unfolding right_zero right_zero_in
right_zero_step zero = refl
right_zero_step (suc n) = ap (past (suc n % 2)) (enough_digits n (suc n / 2) (half_le (le_refl (suc n))))

pub right_zero_even : (n : ℕ) → n % 2 ≡ 0 → right_zero n ≡ 0
right_zero_even n e = right_zero_step n ∙ ap (λ (d : ℕ). past d (right_zero (n / 2))) e

pub right_zero_odd : (n : ℕ) → n % 2 ≡ 1 → right_zero n ≡ suc (right_zero (n / 2))
right_zero_odd n e = right_zero_step n ∙ ap (λ (d : ℕ). past d (right_zero (n / 2))) e

-- ---- what it is: the digit there is 0, and every digit below it is 1

pub right_zero_is_zero : (n : ℕ) → n / 2 ^ right_zero n % 2 ≡ 0
right_zero_is_zero =
    bin_ind (λ (n : ℕ). n / 2 ^ right_zero n % 2 ≡ 0) (ap (λ (x : ℕ). x % 2) (zero-div (2 ^ right_zero 0)))
    (λ n ih. ⊎_elim
    (λ e. rw (right_zero_even n e, div-one) e)
    (λ o. rw (right_zero_odd n o, pow-suc, mul_comm (2 ^ right_zero (n / 2)) 2, ← div-div-eq-div-mul) ih)
    (even_or_odd n))

pub right_zero_ones : (n : ℕ) → n % 2 ^ right_zero n + 1 ≡ 2 ^ right_zero n
right_zero_ones =
    bin_ind (λ (n : ℕ). n % 2 ^ right_zero n + 1 ≡ 2 ^ right_zero n) (rw (right_zero_even 0 refl))
    (λ n ih. ⊎_elim
    (λ e. rw (right_zero_even n e, mod-one))
    (λ o. rw (right_zero_odd n o, pow-suc, mod-mul n (pow_pos (right_zero (n / 2))) (zero-lt-suc 1))
    (one_more (n / 2 % 2 ^ right_zero (n / 2)) (n % 2) (2 ^ right_zero (n / 2)) o ih))
    (even_or_odd n))
  where
    one_more : (a b c : ℕ) → b ≡ 1 → a + 1 ≡ c → a * 2 + b + 1 ≡ c * 2
    one_more a b c p q = omega arith

pub right_zero_lt : (w n : ℕ) → n + 1 < 2 ^ w → right_zero n < w
right_zero_lt zero n h = absurd (omega arith)
right_zero_lt (suc w) n h =
    ⊎_elim (λ e. omega (arith, right_zero_even n e))
    (λ o. omega (arith, right_zero_odd n o, right_zero_lt w (n / 2) (half o)))
    (even_or_odd n)
  where
    half : n % 2 ≡ 1 → n / 2 + 1 < 2 ^ w
    half o = omega (arith, pow-suc 2 w)

-- ---- the Gray code changes that one digit

pub gray_half : (n : ℕ) → gray n / 2 ≡ gray (n / 2)
gray_half n = xor_half n (n / 2)

-- a step changes the lowest digit where the index is even
gray_digit : (n : ℕ) → gray (n + 1) % 2 ≡ (gray n + 1 + n) % 2
gray_digit n = of_sum (n + n / 2) (gray n) (gray (n + 1)) (xor_odd n (n / 2)) (xor_odd (n + 1) ((n + 1) / 2) ∙ ap (λ (x : ℕ). x % 2) sum)
  where
    sum : n + 1 + (n + 1) / 2 ≡ n + n / 2 + 1 + n % 2
    sum = omega arith

    of_sum : (s y z : ℕ) → y % 2 ≡ s % 2 → z % 2 ≡ (s + 1 + n % 2) % 2 → z % 2 ≡ (y + 1 + n) % 2
    of_sum s y z p q = omega arith

pub gray_step : (n : ℕ) → gray (n + 1) ≡ bit_xor (gray n) (2 ^ right_zero n)
gray_step =
    bin_ind (λ (n : ℕ). gray (n + 1) ≡ bit_xor (gray n) (2 ^ right_zero n)) (rw (right_zero_even 0 refl))
    (λ n ih. ⊎_elim
    (λ e. rw (right_zero_even n e)
    (eq_halves (gray (n + 1)) (bit_xor (gray n) 1)
    (gray_half (n + 1) ∙ ap gray (even_half n e) ∙ sym (xor_half (gray n) 1 ∙ xor_zero_r (gray n / 2) ∙ gray_half n))
    (omega (arith, gray_digit n, xor_odd (gray n) 1))))
    (λ o. rw (right_zero_odd n o, pow-suc)
    (eq_halves (gray (n + 1)) (bit_xor (gray n) (2 ^ right_zero (n / 2) * 2))
    (gray_half (n + 1) ∙ ap gray (odd_half n o) ∙ ih
    ∙ sym (xor_half (gray n) (2 ^ right_zero (n / 2) * 2) ∙ ap₂ bit_xor (gray_half n) (doubled_half (2 ^ right_zero (n / 2)))))
    (omega (arith, gray_digit n, xor_odd (gray n) (2 ^ right_zero (n / 2) * 2)))))
    (even_or_odd n))
  where
    even_half : (n : ℕ) → n % 2 ≡ 0 → (n + 1) / 2 ≡ n / 2
    even_half n e = omega arith

    odd_half : (n : ℕ) → n % 2 ≡ 1 → (n + 1) / 2 ≡ n / 2 + 1
    odd_half n o = omega arith

    doubled_half : (x : ℕ) → x * 2 / 2 ≡ x
    doubled_half x = omega arith

-- ---- the trailing zeros of the complement count its place

pub trailing_zeros_of_complement : (w n : ℕ) → n < 2 ^ w → count_trailing_zeros w (2 ^ w - 1 - n) ≡ right_zero n
unfolding count_trailing_zeros
trailing_zeros_of_complement zero n h = sym (right_zero_even n (ap (λ (x : ℕ). x % 2) (lt-one h)))
trailing_zeros_of_complement (suc w) n h =
    ⊎_elim
    (λ e. ap (λ (x : ℕ). under x (count_trailing_zeros w ((2 ^ suc w - 1 - n) / 2))) (at_even e) ∙ sym (right_zero_even n e))
    (λ o. ap₂ (λ (x y : ℕ). under x (count_trailing_zeros w y)) (at_odd o) rest ∙ ap suc (trailing_zeros_of_complement w (n / 2) half) ∙ sym (right_zero_odd n o))
    (even_or_odd n)
  where
    at_even : n % 2 ≡ 0 → (2 ^ suc w - 1 - n) % 2 ≡ 1
    at_even e = omega (arith, pow-suc 2 w)

    at_odd : n % 2 ≡ 1 → (2 ^ suc w - 1 - n) % 2 ≡ 0
    at_odd o = omega (arith, pow-suc 2 w)

    rest : (2 ^ suc w - 1 - n) / 2 ≡ 2 ^ w - 1 - n / 2
    rest = omega (arith, pow-suc 2 w)

    half : n / 2 < 2 ^ w
    half = omega (arith, pow-suc 2 w)
