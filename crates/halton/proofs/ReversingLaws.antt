-- The reversing loop: what it holds after some digits of the index, that one more digit keeps it, and what it has made when nothing is left.
-- Over any map σ of the digits. Assumes nothing.
use mathlib.Core.Path.{◌≡◌, sym, ap, ap₂, ◌∙◌}
use mathlib.Core.Logic.{⊎_elim}
use Prim.Native.Nat.{ℕ, ◌+◌, ◌-◌, ◌*◌, ◌/◌, ◌%◌, ◌^◌, ◌<◌, ◌≤◌}
use native.Mathlib.Nat.{div-eq_of_lt}
use native.Mathlib.Omega.{arith}
use Rattle.numbers.specs.Digits.{digit, numerator_to}
use Rattle.numbers.specs.Depth.{depth, denominator}
use Rattle.numbers.proofs.Cases.{lt_or_ge}
use Rattle.numbers.proofs.DigitLaws.{quotient_none, quotient_more}
use Rattle.numbers.proofs.NumeratorLaws.{numerator_none, numerator_last, numerator_zeros, numerator_lt}
use Rattle.numbers.proofs.DepthLaws.{Rising, rising_none, rising_more, rising_left, rising_depth}
use Rattle.numbers.proofs.ReciprocalLaws.{Divided}
use Rattle.halton.specs.Axis.{numerator}

-- x is made of the first digits of n, `rest` is what is left of n, and p the power of b for the next digit
pub record Reversing (σ : ℕ → ℕ) (b n x rest p : ℕ) : Type 0 where
  pub digits : ℕ
  pub power : Rising b digits p
  pub left : rest ≡ n / b ^ digits
  pub made : x ≡ numerator_to σ b digits n

pub reversing_none : (σ : ℕ → ℕ) (b n : ℕ) → Reversing σ b n 0 n 1
reversing_none σ b n = record { digits = 0; power = rising_none b; left = quotient_none b n; made = sym (numerator_none σ b n) }

module _ {σ : ℕ → ℕ} {b n x rest p : ℕ} (a : Reversing σ b n x rest p) (big : 2 ≤ b) where
  pub reversing_next : p < 2 ^ 32 → Reversing σ b n (x * b + σ (rest % b)) (rest / b) (p * b)
  unfolding digit
  reversing_next l =
      record {
        digits = a.digits + 1;
        power = rising_more a.power big l;
        left = ap (λ (y : ℕ). y / b) a.left ∙ quotient_more b n a.digits;
        made = ap₂ (λ (y q : ℕ). y * b + σ (q % b)) a.made a.left ∙ sym (numerator_last σ b a.digits n);
      }

  -- the same where the quotient is taken by a product
  pub reversing_divided : {q : ℕ} → Divided b rest q → p < 2 ^ 32 → Reversing σ b n (x * b + σ (rest - q * b)) q (p * b)
  reversing_divided d l = rw (d.remainder, d.quotient) (reversing_next l)

  -- what is made stays below the power
  pub reversing_lt : ((d : ℕ) → d < b → σ d < b) → x < p
  reversing_lt below = omega (arith, a.power.is, a.made, numerator_lt σ b below (omega arith) a.digits n)

  -- while something is left, another power fits
  pub reversing_below : n < 2 ^ 32 → 0 < rest → p < 2 ^ 32
  reversing_below h l =
      ⊎_elim (λ q. q) (λ q. absurd (omega (arith, a.left, div-eq_of_lt {n = n} {m = b ^ a.digits} (omega (arith, a.power.is))))) (lt_or_ge p (2 ^ 32))

  -- when nothing is left: the digits that were not visited are zeros
  pub reversing_zeros : σ 0 ≡ 0 → rest ≡ 0 → x * (denominator b / p) ≡ numerator σ b n
  unfolding numerator
  reversing_zeros z e =
      ap₂ ◌*◌ a.made (rising_left a.power big) ∙ sym (numerator_zeros σ b z a.digits n (depth b - a.digits) (sym a.left ∙ e))
      ∙ ap (λ (k : ℕ). numerator_to σ b k n) {x = a.digits + (depth b - a.digits)} {y = depth b} (omega (arith, a.power.within))

  pub reversing_whole : 2 ^ 32 ≤ p → x ≡ numerator σ b n
  unfolding numerator
  reversing_whole h = a.made ∙ ap (λ (k : ℕ). numerator_to σ b k n) (rising_depth a.power big h)
