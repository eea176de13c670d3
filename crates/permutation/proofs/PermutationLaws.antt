-- Permutations of digits: the identity, and that the numerators of k digits are themselves a permutation. Assumes nothing.
use mathlib.Core.Path.{◌≡◌, refl, sym, ap, ap₂, ◌∙◌, subst, fun_ext}
use Prim.Native.Nat.{ℕ, zero, suc, ◌+◌, ◌*◌, ◌/◌, ◌%◌, ◌^◌, ◌<◌}
use native.Mathlib.Nat.{mod-lt, mod-eq_of_lt, div-lt_iff_lt-mul, pow-zero, pow-suc, div-add-mod'}
use native.Mathlib.Numerals.{suc-eq-add-one}
use lib.Arith.{lt-one, digits_div}
use Rattle.numbers.specs.Digits.{digit, numerator_to}
use Rattle.numbers.proofs.NumeratorLaws.{numerator_none, numerator_zero, numerator_first, numerator_last, numerator_lt, numerator_low}
use Rattle.permutation.specs.Permutes.{Permutes}

pub identity_permutes : (b : ℕ) → Permutes b (λ k. k)
identity_permutes b =
    record {
      inverse = λ k. k;
      below = λ k l. l;
      inverse_below = λ r l. l;
      back = λ k l. refl;
      onto = λ r l. refl;
      zero_first = refl;
    }

-- equal maps
pub permutes_same : {b : ℕ} {σ ρ : ℕ → ℕ} → ((k : ℕ) → σ k ≡ ρ k) → Permutes b ρ → Permutes b σ
permutes_same {b} e p = subst (λ (f : ℕ → ℕ). Permutes b f) (fun_ext (λ k. sym (e k))) p

-- ---- the numerators under σ are undone by the numerators under its inverse τ

module _ (σ τ : ℕ → ℕ) (b : ℕ) (pos : 0 < b) (below : (d : ℕ) → d < b → σ d < b) (back : (d : ℕ) → d < b → τ (σ d) ≡ d) where
  last_digit : (k n : ℕ) → digit b (numerator_to σ b (k + 1) n) k ≡ σ (n % b)
  unfolding digit
  last_digit k n =
      ap (λ (m : ℕ). m / b ^ k % b) (numerator_first σ b k n)
      ∙ ap (λ (m : ℕ). m % b) (digits_div (σ (n % b)) (numerator_lt σ b below pos k (n / b)))
      ∙ mod-eq_of_lt (below (n % b) (mod-lt n pos))

  other_digits : (k n : ℕ) → numerator_to τ b k (numerator_to σ b (k + 1) n) ≡ numerator_to τ b k (numerator_to σ b k (n / b))
  other_digits k n =
      ap (numerator_to τ b k) (numerator_first σ b k n) ∙ numerator_low τ b pos k (σ (n % b)) (numerator_to σ b k (n / b))

  numerator_undone : (k n : ℕ) → n < b ^ k → numerator_to τ b k (numerator_to σ b k n) ≡ n
  numerator_undone zero n l = numerator_none τ b _ ∙ sym (lt-one (rw pow-zero at l))
  numerator_undone (suc k) n l =
      rw (suc-eq-add-one k)
      (numerator_last τ b k (numerator_to σ b (k + 1) n)
      ∙ ap₂ (λ (x y : ℕ). x * b + y)
      (other_digits k n ∙ numerator_undone k (n / b) ((div-lt_iff_lt-mul pos).1 (rw pow-suc at l)))
      (ap τ (last_digit k n) ∙ back (n % b) (mod-lt n pos))
      ∙ div-add-mod' n b)

-- The numerators of k digits are a permutation of 0 to b ^ k - 1, whatever permutation the digits have.
pub numerator_permutes : {b : ℕ} {σ : ℕ → ℕ} → 0 < b → Permutes b σ → (k : ℕ) → Permutes (b ^ k) (numerator_to σ b k)
numerator_permutes {b} {σ} pos p k =
    record {
      inverse = numerator_to p.inverse b k;
      below = λ n l. numerator_lt σ b p.below pos k n;
      inverse_below = λ n l. numerator_lt p.inverse b p.inverse_below pos k n;
      back = numerator_undone σ p.inverse b pos p.below p.back k;
      onto = numerator_undone p.inverse σ b pos p.inverse_below p.onto k;
      zero_first = numerator_zero σ b p.zero_first k;
    }
