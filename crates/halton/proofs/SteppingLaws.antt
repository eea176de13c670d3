-- The step from an index to the next: without a carry the first digit goes up; with one it goes back to 0, and what is left takes the step.
-- Assumes nothing.
use mathlib.Core.Path.{◌≡◌, refl, sym, ap, ◌∙◌}
use mathlib.Core.Logic.{⊎_elim}
use Prim.Native.Nat.{ℕ, ◌+◌, ◌-◌, ◌*◌, ◌/◌, ◌%◌, ◌^◌, ◌<◌, ◌≤◌}
use native.Mathlib.Nat.{le_refl, pow-zero, mul-div_cancel, div-eq_of_lt, zero-mul, zero-add, add-mul, div-add-mod', mod-lt}
use native.Mathlib.Omega.{arith}
use lib.Arith.{digits_div, digits_mod}
use Rattle.numbers.specs.Digits.{numerator_to}
use Rattle.numbers.specs.Depth.{depth, denominator}
use Rattle.numbers.proofs.Cases.{lt_or_ge}
use Rattle.numbers.proofs.DigitLaws.{pow_pos, pow_one_more, pow_up_to}
use Rattle.numbers.proofs.NumeratorLaws.{numerator_none, numerator_first, numerator_lt}
use Rattle.permutation.specs.Permutes.{Permutes}
use Rattle.halton.specs.Axis.{numerator}

-- ---- n + 1 by its digits, where the first is not the last of the base, and where it is

module _ (b n : ℕ) where
  up : n + 1 ≡ n / b * b + (n % b + 1)
  up = omega (arith, div-add-mod' n b)

  up_mod : n % b < b - 1 → (n + 1) % b ≡ n % b + 1
  up_mod l = ap (λ (x : ℕ). x % b) up ∙ digits_mod (n / b) (omega arith)

  up_div : n % b < b - 1 → (n + 1) / b ≡ n / b
  up_div l = ap (λ (x : ℕ). x / b) up ∙ digits_div (n / b) (omega arith)

  carried : 0 < b → b - 1 ≤ n % b → n + 1 ≡ (n / b + 1) * b + 0
  carried pos l = omega (arith, div-add-mod' n b, mod-lt n pos, add-mul (n / b) 1 b)

  carry_mod : 0 < b → b - 1 ≤ n % b → (n + 1) % b ≡ 0
  carry_mod pos l = ap (λ (x : ℕ). x % b) (carried pos l) ∙ digits_mod (n / b + 1) pos

  carry_div : 0 < b → b - 1 ≤ n % b → (n + 1) / b ≡ n / b + 1
  carry_div pos l = ap (λ (x : ℕ). x / b) (carried pos l) ∙ digits_div (n / b + 1) pos

-- ---- the numerator of n + 1

module _ (σ : ℕ → ℕ) (b : ℕ) where
  step_up : (k n : ℕ) → n % b < b - 1 →
      numerator_to σ b (k + 1) (n + 1) + σ (n % b) * b ^ k ≡ numerator_to σ b (k + 1) n + σ (n % b + 1) * b ^ k
  step_up k n l = rw (numerator_first σ b k (n + 1), numerator_first σ b k n, up_mod b n l, up_div b n l) (omega arith)

  step_carry : (k n : ℕ) → σ 0 ≡ 0 → 0 < b → b - 1 ≤ n % b → numerator_to σ b (k + 1) (n + 1) ≡ numerator_to σ b k (n / b + 1)
  step_carry k n z pos l =
      numerator_first σ b k (n + 1) ∙ rw (carry_mod b n pos l, carry_div b n pos l, z, zero-mul) (zero-add _)

-- ---- the stepping loop

-- y is the numerator of `rest` at the digits that are left, w the weight of the first of them, and t where the step goes
pub record Stepping (σ : ℕ → ℕ) (b t w rest y : ℕ) : Type 0 where
  pub left : ℕ
  pub within : left ≤ depth b
  pub weight : w ≡ b ^ left / b
  pub here : y ≡ numerator_to σ b left rest
  pub there : numerator_to σ b left (rest + 1) ≡ t

pub stepping_start : (σ : ℕ → ℕ) (b n : ℕ) {w x : ℕ} → w ≡ denominator b / b → x ≡ numerator σ b n → Stepping σ b (numerator σ b (n + 1)) w n x
unfolding denominator numerator
stepping_start σ b n e h =
    record { left = depth b; within = le_refl (depth b); weight = e; here = h; there = refl }

module _ {σ : ℕ → ℕ} {b t w rest y : ℕ} (a : Stepping σ b t w rest y) (p : Permutes b σ) (big : 2 ≤ b) where
  -- both numerators are below the denominator
  pub stepping_lt : (y < denominator b) × (t < denominator b)
  unfolding denominator
  stepping_lt =
      let up = pow_up_to b {j = a.left} {k = depth b} (omega arith) a.within in (
        omega (arith, a.here, up, numerator_lt σ b p.below (omega arith) a.left rest),
        omega (arith, a.there, up, numerator_lt σ b p.below (omega arith) a.left (rest + 1)),
      )

  -- the weight is a power as long as a digit is left, and then 0
  weight_at : 0 < a.left → w ≡ b ^ (a.left - 1)
  weight_at l =
      a.weight ∙ ap (λ (m : ℕ). b ^ m / b) {x = a.left} {y = a.left - 1 + 1} (omega arith)
      ∙ ap (λ (q : ℕ). q / b) (pow_one_more b (a.left - 1)) ∙ mul-div_cancel (b ^ (a.left - 1)) (omega arith)

  weight_none : a.left ≡ 0 → w ≡ 0
  weight_none e = a.weight ∙ ap (λ (m : ℕ). b ^ m / b) e ∙ rw pow-zero (div-eq_of_lt big)

  module _ (l : 0 < w) where
    some_left : a.left ≡ a.left - 1 + 1
    some_left = ⊎_elim (λ q. omega arith) (λ q. absurd (omega (arith, weight_none (omega arith)))) (lt_or_ge 0 a.left)

    weight_is : w ≡ b ^ (a.left - 1)
    weight_is = weight_at (omega (arith, some_left))

    opened : y ≡ σ (rest % b) * w + numerator_to σ b (a.left - 1) (rest / b)
    opened =
        a.here ∙ ap (λ (m : ℕ). numerator_to σ b m rest) some_left ∙ numerator_first σ b (a.left - 1) rest
        ∙ ap (λ (v : ℕ). σ (rest % b) * v + numerator_to σ b (a.left - 1) (rest / b)) (sym weight_is)

    -- the first digit's share is in y
    pub stepping_share : σ (rest % b) * w ≤ y
    stepping_share = omega (arith, opened)

    -- no carry: this is the answer
    pub stepping_up : rest % b < b - 1 → y - σ (rest % b) * w + σ (rest % b + 1) * w ≡ t
    stepping_up lt =
        omega (
          arith,
          opened,
          ap (λ (m : ℕ). numerator_to σ b m (rest + 1)) some_left,
          ap (λ (m : ℕ). numerator_to σ b m rest) some_left,
          a.there,
          a.here,
          step_up σ b (a.left - 1) rest lt,
          ap (λ (v : ℕ). σ (rest % b) * v) weight_is,
          ap (λ (v : ℕ). σ (rest % b + 1) * v) weight_is,
        )

    -- a carry: one digit less is left
    pub stepping_carry : b - 1 ≤ rest % b → Stepping σ b t (w / b) (rest / b) (y - σ (rest % b) * w)
    stepping_carry ge =
        record {
          left = a.left - 1;
          within = omega (arith, a.within);
          weight = ap (λ (v : ℕ). v / b) weight_is;
          here = omega (arith, opened);
          there =
              sym (step_carry σ b (a.left - 1) rest p.zero_first (omega arith) ge)
              ∙ ap (λ (m : ℕ). numerator_to σ b m (rest + 1)) (sym some_left) ∙ a.there;
        }

  -- every digit carried: the index after the last one of that many digits
  pub stepping_end : w ≡ 0 → y ≡ t
  stepping_end e =
      a.here ∙ ap (λ (m : ℕ). numerator_to σ b m rest) no ∙ numerator_none σ b rest
      ∙ sym (numerator_none σ b (rest + 1)) ∙ ap (λ (m : ℕ). numerator_to σ b m (rest + 1)) (sym no) ∙ a.there
    where
      no : a.left ≡ 0
      no = ⊎_elim (λ q. absurd (omega (arith, weight_at q, pow_pos b (a.left - 1) (omega arith)))) (λ q. omega arith) (lt_or_ge 0 a.left)
