-- The numerator of k digits by its last digit and by its first, its range, and what it says of the index. Over any map σ of the digits.
-- Assumes nothing.
use mathlib.Core.Path.{◌≡◌, refl, sym, ap, ap₂, ◌∙◌}
use Prim.Native.Nat.{ℕ, zero, suc, ◌+◌, ◌-◌, ◌*◌, ◌/◌, ◌%◌, ◌^◌, ◌<◌}
use native.Mathlib.Nat.{pow-zero, mod-lt, add-zero, div-one, mul_assoc, mul_comm, mul-one, add-mul, add_assoc, zero-mul, zero-mod, zero-div, div-div-eq-div-mul, mul-add-mod_self_right, mul-add-div_right}
use native.Mathlib.Numerals.{suc-eq-add-one}
use native.Mathlib.Omega.{arith}
use lib.Arith.{digits_lt, digits_div}
use lib.Pow.{pow-add}
use Rattle.numbers.specs.Digits.{digit, sum, term, numerator_to}
use Rattle.numbers.proofs.DigitLaws.{pow_one_more, quotient_none, sum_ext, sum_times, sum_one_more}

-- digit k of what is left after the lowest is digit k + 1
digit_left : (b n k : ℕ) → digit b (n / b) k ≡ digit b n (k + 1)
unfolding digit
digit_left b n k =
    ap (λ (q : ℕ). q % b) (div-div-eq-div-mul n b (b ^ k) ∙ ap (λ (p : ℕ). n / p) (mul_comm b (b ^ k) ∙ sym (pow_one_more b k)))

digit_none : (b n : ℕ) → digit b n 0 ≡ n % b
unfolding digit
digit_none b n = ap (λ (q : ℕ). q % b) (sym (quotient_none b n))

-- past its last digit
digit_past : (b k n j : ℕ) → n / b ^ k ≡ 0 → digit b n (k + j) ≡ 0
unfolding digit
digit_past b k n j e =
    ap (λ (p : ℕ). n / p % b) (pow-add b k j)
    ∙ ap (λ (q : ℕ). q % b) (sym (div-div-eq-div-mul n (b ^ k) (b ^ j)) ∙ ap (λ (q : ℕ). q / b ^ j) e ∙ zero-div (b ^ j))
    ∙ zero-mod b

module _ (σ : ℕ → ℕ) (b : ℕ) where
  -- ---- one digit more

  -- the digits already there move up by one place
  term_up : (k n j : ℕ) → j < k → term σ b (k + 1) n j ≡ term σ b k n j * b
  unfolding term
  term_up k n j l =
      ap (λ (e : ℕ). σ (digit b n j) * b ^ e) {x = k + 1 - 1 - j} {y = k - 1 - j + 1} (omega arith)
      ∙ ap (λ (p : ℕ). σ (digit b n j) * p) (pow_one_more b (k - 1 - j)) ∙ sym (mul_assoc (σ (digit b n j)) (b ^ (k - 1 - j)) b)

  term_last : (k n : ℕ) → term σ b (k + 1) n k ≡ σ (digit b n k)
  unfolding term
  term_last k n =
      ap (λ (e : ℕ). σ (digit b n k) * b ^ e) {x = k + 1 - 1 - k} {y = 0} (omega arith)
      ∙ rw pow-zero (mul-one (σ (digit b n k)))

  pub numerator_none : (n : ℕ) → numerator_to σ b 0 n ≡ 0
  unfolding numerator_to sum
  numerator_none n = refl

  -- by the last digit: Horner's rule
  pub numerator_last : (k n : ℕ) → numerator_to σ b (k + 1) n ≡ numerator_to σ b k n * b + σ (digit b n k)
  unfolding numerator_to
  numerator_last k n =
      sum_one_more (term σ b (k + 1) n) k
      ∙ ap₂ ◌+◌ (sum_ext (term σ b (k + 1) n) (λ j. term σ b k n j * b) k (term_up k n) ∙ sum_times (term σ b k n) k b) (term_last k n)

  -- by the first digit, and the numerator of what is left
  pub numerator_first : (k n : ℕ) → numerator_to σ b (k + 1) n ≡ σ (n % b) * b ^ k + numerator_to σ b k (n / b)
  numerator_first zero n =
      numerator_last 0 n
      ∙ rw (numerator_none n, numerator_none (n / b), digit_none b n, pow-zero, zero-mul, mul-one) (omega arith)
  numerator_first (suc k) n =
      numerator_last (suc k) n
      ∙ rw (suc-eq-add-one k, numerator_first k n, numerator_last k (n / b), digit_left b n k, pow_one_more b k, add-mul, mul_assoc) (add_assoc _ _ _)

  -- index 0
  pub numerator_zero : σ 0 ≡ 0 → (k : ℕ) → numerator_to σ b k 0 ≡ 0
  numerator_zero z zero = numerator_none 0
  numerator_zero z (suc k) =
      rw (suc-eq-add-one k) (numerator_first k 0 ∙ rw (zero-mod b, zero-div b, z, numerator_zero z k, zero-mul) refl)

  -- an index of at most k digits: each further digit is a leading zero
  pub numerator_zeros : σ 0 ≡ 0 → (k n j : ℕ) → n / b ^ k ≡ 0 → numerator_to σ b (k + j) n ≡ numerator_to σ b k n * b ^ j
  numerator_zeros z k n zero e = rw (add-zero, pow-zero) (sym (mul-one _))
  numerator_zeros z k n (suc j) e =
      rw (suc-eq-add-one j, ← add_assoc k j 1, numerator_last (k + j) n, numerator_zeros z k n j e, digit_past b k n j e, z, pow_one_more b j)
      (add-zero _ ∙ mul_assoc _ (b ^ j) b)

  module _ (below : (d : ℕ) → d < b → σ d < b) (pos : 0 < b) where
    digit_image_below : (n j : ℕ) → σ (digit b n j) < b
    unfolding digit
    digit_image_below n j = below (digit b n j) (mod-lt (_ / _) pos)

    -- a numerator of k digits is below b ^ k
    pub numerator_lt : (k n : ℕ) → numerator_to σ b k n < b ^ k
    numerator_lt zero n = rw pow-zero (unfold numerator_to sum in omega arith)
    numerator_lt (suc k) n =
        rw (suc-eq-add-one k, numerator_last k n, pow_one_more b k) (digits_lt (numerator_lt k n) (digit_image_below n k))

    -- its first k digits are the numerator of k digits
    pub numerator_first_digits : (k e n : ℕ) → numerator_to σ b (k + e) n / b ^ e ≡ numerator_to σ b k n
    numerator_first_digits k zero n = rw (add-zero, pow-zero) (div-one (numerator_to σ b k n))
    numerator_first_digits k (suc e) n =
        rw (suc-eq-add-one e, ← add_assoc k e 1, numerator_last (k + e) n, pow_one_more b e, mul_comm (b ^ e) b)
        (sym (div-div-eq-div-mul _ b (b ^ e))
        ∙ ap (λ (x : ℕ). x / b ^ e) (digits_div (numerator_to σ b (k + e) n) (digit_image_below n (k + e)))
        ∙ numerator_first_digits k e n)

  -- ---- a numerator of k digits looks at k digits only

  pub numerator_low : 0 < b → (k q r : ℕ) → numerator_to σ b k (q * b ^ k + r) ≡ numerator_to σ b k r
  numerator_low pos zero q r = numerator_none _ ∙ sym (numerator_none r)
  numerator_low pos (suc k) q r =
      rw (suc-eq-add-one k)
      (numerator_first k (q * b ^ (k + 1) + r)
      ∙ ap₂ (λ (x y : ℕ). σ x * b ^ k + numerator_to σ b k y)
      (ap (λ (x : ℕ). x % b) shape ∙ mul-add-mod_self_right (q * b ^ k) b r)
      (ap (λ (x : ℕ). x / b) shape ∙ mul-add-div_right pos (q * b ^ k) r)
      ∙ ap (λ (x : ℕ). σ (r % b) * b ^ k + x) (numerator_low pos k q (r / b))
      ∙ sym (numerator_first k r))
    where
      shape : q * b ^ (k + 1) + r ≡ q * b ^ k * b + r
      shape = ap (λ (x : ℕ). x + r) (ap (λ (x : ℕ). q * x) (pow_one_more b k) ∙ sym (mul_assoc q (b ^ k) b))

-- two maps that agree on the digits
pub numerator_ext : (σ τ : ℕ → ℕ) (b k n : ℕ) → 0 < b → ((d : ℕ) → d < b → σ d ≡ τ d) → numerator_to σ b k n ≡ numerator_to τ b k n
unfolding numerator_to term digit
numerator_ext σ τ b k n l h =
    sum_ext (term σ b k n) (term τ b k n) k (λ j q. ap (λ (x : ℕ). x * b ^ (k - 1 - j)) (h (n / b ^ j % b) (mod-lt (n / b ^ j) l)))
