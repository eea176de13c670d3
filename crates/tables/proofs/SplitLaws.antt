-- A numerator splits at any digit: that of q × b^e + r, with r below b^e, is that of q × b^e and that of r, over any σ that keeps 0. So the
-- first b^e points of an axis and one number give every later run of b^e points. Assumes nothing.
use mathlib.Core.Path.{◌≡◌, refl, sym, ap, ◌∙◌}
use Prim.Native.Nat.{ℕ, zero, suc, ◌+◌, ◌-◌, ◌*◌, ◌/◌, ◌%◌, ◌^◌, ◌<◌, ◌≤◌}
use native.Mathlib.Nat.{add-zero, zero-add, zero-mul, mul-one, mul_assoc, add-mul, pow-zero, pow-suc, mod-lt, div-add-mod', div-lt_iff_lt-mul, mod-eq_of_lt, div-eq_of_lt, mul-le-mul_right, le_antisymm, le_of_eq, le_of_mul-le-mul_right, mul-div_cancel}
use native.Mathlib.Numerals.{suc-eq-add-one}
use native.Mathlib.Omega.{arith}
use lib.Arith.{digits_div, digits_mod}
use lib.Pow.{pow-add}
use Rattle.numbers.specs.Digits.{numerator_to}
use Rattle.numbers.specs.Depth.{depth, denominator}
use Rattle.numbers.proofs.DigitLaws.{pow_pos, pow_one_more}
use Rattle.numbers.proofs.NumeratorLaws.{numerator_none, numerator_first, numerator_zero}
use Rattle.halton.specs.Axis.{numerator}
use Rattle.columns.specs.Tiles.{Splits}

times_cancel : (a c k : ℕ) → 0 < k → a * k ≡ c * k → a ≡ c
times_cancel a c k l e = le_antisymm (le_of_mul-le-mul_right {k = k} (le_of_eq e) l) (le_of_mul-le-mul_right {k = k} (le_of_eq (sym e)) l)

not_one : (x b : ℕ) → 2 ≤ b → x * b ≡ 1 → ⊥
not_one zero b l e = omega (arith, zero-mul b)
not_one (suc x) b l e = omega (arith, mul-le-mul_right {m = 1} {n = suc x} b (omega arith))

module _ (σ : ℕ → ℕ) (b : ℕ) (z : σ 0 ≡ 0) (big : 2 ≤ b) where
  module _ (e q r : ℕ) where
    low : q * b ^ suc e + r ≡ (q * b ^ e + r / b) * b + r % b
    low = rw pow-suc (omega (arith, div-add-mod' r b, mul_assoc q (b ^ e) b, add-mul (q * b ^ e) (r / b) b))

    low_mod : (q * b ^ suc e + r) % b ≡ r % b
    low_mod = ap (λ (x : ℕ). x % b) low ∙ digits_mod (q * b ^ e + r / b) (mod-lt r (omega arith))

    low_div : (q * b ^ suc e + r) / b ≡ q * b ^ e + r / b
    low_div = ap (λ (x : ℕ). x / b) low ∙ digits_div (q * b ^ e + r / b) (mod-lt r (omega arith))

  -- the first digit of q × b^(e+1) is 0
  whole_first : (e q k : ℕ) → numerator_to σ b (k + 1) (q * b ^ suc e) ≡ numerator_to σ b k (q * b ^ e)
  whole_first e q k = numerator_first σ b k (q * b ^ suc e) ∙ rw (whole_mod, whole_div, z, zero-mul) (zero-add _)
    where
      whole : q * b ^ suc e ≡ q * b ^ e * b + 0
      whole = rw pow-suc (omega (arith, mul_assoc q (b ^ e) b))

      whole_mod : (q * b ^ suc e) % b ≡ 0
      whole_mod = ap (λ (x : ℕ). x % b) whole ∙ digits_mod (q * b ^ e) (omega arith)

      whole_div : q * b ^ suc e / b ≡ q * b ^ e
      whole_div = ap (λ (x : ℕ). x / b) whole ∙ digits_div (q * b ^ e) (omega arith)

  split_to : (e k q r : ℕ) → r < b ^ e → numerator_to σ b k (q * b ^ e + r) ≡ numerator_to σ b k (q * b ^ e) + numerator_to σ b k r
  split_to zero k q r h =
      let n : r ≡ 0 = omega (arith, pow-zero b) in
      rw (n, add-zero, numerator_zero σ b z k) (sym (add-zero _))
  split_to (suc e) zero q r h = rw (numerator_none σ b (q * b ^ suc e + r), numerator_none σ b (q * b ^ suc e), numerator_none σ b r) refl
  split_to (suc e) (suc k) q r h =
      let lt : r / b < b ^ e = (div-lt_iff_lt-mul {k = b} (omega arith)).1 (rw pow-suc at h) in
      rw (suc-eq-add-one k, numerator_first σ b k (q * b ^ suc e + r), whole_first e q k, numerator_first σ b k r, low_mod e q r, low_div e q r, split_to e k q (r / b) lt)
      (omega arith)

  pub numerator_splits : Splits ◌+◌ (numerator σ b) b
  unfolding numerator
  numerator_splits = record { at = λ e. split_to e (depth b) }

  digit_to : (e k d w : ℕ) → d < b → w * b * b ^ e ≡ b ^ k → numerator_to σ b k (d * b ^ e) ≡ σ d * w
  digit_to zero zero d w l h = absurd (not_one w b big (sym (mul-one (w * b)) ∙ ap (λ (x : ℕ). w * b * x) (sym (pow-zero b)) ∙ h ∙ pow-zero b))
  digit_to zero (suc k) d w l h =
      rw (suc-eq-add-one k, pow-zero, mul-one, numerator_first σ b k d, mod-eq_of_lt l, div-eq_of_lt l, numerator_zero σ b z k)
      (omega (arith, ap (λ (x : ℕ). σ d * x) (times_cancel w (b ^ k) b (omega arith) (omega (arith, pow-suc b k, ap (λ (x : ℕ). w * b * x) (pow-zero b))))))
  digit_to (suc e) zero d w l h =
      absurd (not_one (w * b * b ^ e) b big (mul_assoc (w * b) (b ^ e) b ∙ ap (λ (x : ℕ). w * b * x) (sym (pow-suc b e)) ∙ h ∙ pow-zero b))
  digit_to (suc e) (suc k) d w l h =
      rw (suc-eq-add-one k, whole_first e d k)
      (digit_to e k d w l (times_cancel (w * b * b ^ e) (b ^ k) b (omega arith) (mul_assoc (w * b) (b ^ e) b ∙ ap (λ (x : ℕ). w * b * x) (sym (pow-suc b e)) ∙ h ∙ pow-suc b k)))

  -- one digit alone, at place e: its image times its weight w
  pub numerator_digit : (e d w : ℕ) → d < b → w * b * b ^ e ≡ denominator b → numerator σ b (d * b ^ e) ≡ σ d * w
  unfolding numerator denominator
  numerator_digit e = digit_to e (depth b)

-- the weight of the next digit
pub weight_next : (b : ℕ) → 2 ≤ b → (e w : ℕ) → w * b ^ e ≡ denominator b → e < depth b → w / b * b ≡ w
unfolding denominator
weight_next b big e w h l =
    ap (λ (x : ℕ). x / b * b) is ∙ ap (λ (x : ℕ). x * b) (mul-div_cancel (b ^ (depth b - e - 1)) (omega arith)) ∙ sym is
  where
    is : w ≡ b ^ (depth b - e - 1) * b
    is =
        times_cancel w (b ^ (depth b - e - 1) * b) (b ^ e) (pow_pos b e (omega arith))
        (h ∙ ap (λ (x : ℕ). b ^ x) {x = depth b} {y = depth b - e - 1 + 1 + e} (omega arith) ∙ pow-add b (depth b - e - 1 + 1) e ∙ ap (λ (x : ℕ). x * b ^ e) (pow_one_more b (depth b - e - 1)))
