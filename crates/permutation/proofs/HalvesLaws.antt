-- A map whose lower half is twice a permutation, and whose upper half twice another and one more, is a permutation. The lower half of an odd
-- base is the larger by one. Assumes nothing.
use mathlib.Core.Path.{◌≡◌, ap, ◌∙◌}
use mathlib.Core.Bool.{cond}
use mathlib.Core.Logic.{⊎_elim}
use Prim.Native.Nat.{ℕ, ◌+◌, ◌-◌, ◌*◌, ◌/◌, ◌%◌, ◌<◌, ◌≤◌}
use native.Mathlib.Omega.{arith}
use lib.Dec.{eqb}
use borrow.Author.Tests.{eq-eqb, ne_eqb}
use Rattle.numbers.proofs.Cases.{lt_or_ge, even_or_odd}
use Rattle.permutation.specs.Permutes.{Permutes}

-- σ, by the maps of the two halves
pub record Halved (b : ℕ) (σ ρ τ : ℕ → ℕ) : Type 0 where
  pub low : (k : ℕ) → k < (b + 1) / 2 → σ k ≡ 2 * ρ k
  pub high : (k : ℕ) → (b + 1) / 2 ≤ k → k < b → σ k ≡ 2 * τ (k - (b + 1) / 2) + 1

-- what undoes it: the lowest binary digit says the half
halves_inverse : (ℕ → ℕ) → (ℕ → ℕ) → ℕ → ℕ → ℕ
halves_inverse ρ τ c r = cond (eqb (r % 2) 0) (ρ (r / 2)) (c + τ (r / 2))

inverse_even : (ρ τ : ℕ → ℕ) (c r : ℕ) → r % 2 ≡ 0 → halves_inverse ρ τ c r ≡ ρ (r / 2)
unfolding halves_inverse
inverse_even ρ τ c r e = rw (eq-eqb (r % 2) 0 e)

inverse_odd : (ρ τ : ℕ → ℕ) (c r : ℕ) → r % 2 ≡ 1 → halves_inverse ρ τ c r ≡ c + τ (r / 2)
unfolding halves_inverse
inverse_odd ρ τ c r e = rw (ne_eqb (r % 2) 0 (omega arith))

module _ {b : ℕ} {σ ρ τ : ℕ → ℕ} (s : Halved b σ ρ τ) (p : Permutes ((b + 1) / 2) ρ) (q : Permutes (b / 2) τ) where
  below : (k : ℕ) → k < b → σ k < b
  below k l =
      ⊎_elim (λ a. omega (arith, s.low k a, p.below k a)) (λ a. omega (arith, s.high k a l, q.below (k - (b + 1) / 2) (omega arith)))
      (lt_or_ge k ((b + 1) / 2))

  inverse : ℕ → ℕ
  inverse = halves_inverse p.inverse q.inverse ((b + 1) / 2)

  even : (r : ℕ) → r % 2 ≡ 0 → inverse r ≡ p.inverse (r / 2)
  unfolding inverse
  even = inverse_even p.inverse q.inverse ((b + 1) / 2)

  odd : (r : ℕ) → r % 2 ≡ 1 → inverse r ≡ (b + 1) / 2 + q.inverse (r / 2)
  unfolding inverse
  odd = inverse_odd p.inverse q.inverse ((b + 1) / 2)

  inverse_below : (r : ℕ) → r < b → inverse r < b
  inverse_below r l =
      ⊎_elim (λ e. omega (arith, even r e, p.inverse_below (r / 2) (omega arith)))
      (λ e. omega (arith, odd r e, q.inverse_below (r / 2) (omega arith))) (even_or_odd r)

  back_low : (k : ℕ) → k < (b + 1) / 2 → inverse (σ k) ≡ k
  back_low k l =
      ap inverse (s.low k l) ∙ even (2 * ρ k) (omega arith) ∙ ap p.inverse {x = 2 * ρ k / 2} {y = ρ k} (omega arith) ∙ p.back k l

  -- the upper half by the place in it
  upper : (j : ℕ) → j < b / 2 → σ ((b + 1) / 2 + j) ≡ 2 * τ j + 1
  upper j l =
      s.high ((b + 1) / 2 + j) (omega arith) (omega arith)
      ∙ ap (λ (x : ℕ). 2 * τ x + 1) {x = (b + 1) / 2 + j - (b + 1) / 2} {y = j} (omega arith)

  back_high : (j : ℕ) → j < b / 2 → inverse (σ ((b + 1) / 2 + j)) ≡ (b + 1) / 2 + j
  back_high j l =
      ap inverse (upper j l) ∙ odd (2 * τ j + 1) (omega arith)
      ∙ ap (λ (x : ℕ). (b + 1) / 2 + x) (ap q.inverse {x = (2 * τ j + 1) / 2} {y = τ j} (omega arith) ∙ q.back j l)

  back : (k : ℕ) → k < b → inverse (σ k) ≡ k
  back k l =
      ⊎_elim (back_low k)
      (λ a. let e : (b + 1) / 2 + (k - (b + 1) / 2) ≡ k = omega arith in rw e at (back_high (k - (b + 1) / 2) (omega arith)))
      (lt_or_ge k ((b + 1) / 2))

  onto_even : (r : ℕ) → r / 2 < (b + 1) / 2 → r % 2 ≡ 0 → σ (inverse r) ≡ r
  onto_even r m e = ap σ (even r e) ∙ omega (arith, s.low (p.inverse (r / 2)) (p.inverse_below (r / 2) m), p.onto (r / 2) m)

  onto_odd : (r : ℕ) → r / 2 < b / 2 → r % 2 ≡ 1 → σ (inverse r) ≡ r
  onto_odd r m e = ap σ (odd r e) ∙ omega (arith, upper (q.inverse (r / 2)) (q.inverse_below (r / 2) m), q.onto (r / 2) m)

  onto : (r : ℕ) → r < b → σ (inverse r) ≡ r
  onto r l = ⊎_elim (λ e. onto_even r (omega arith) e) (λ e. onto_odd r (omega arith) e) (even_or_odd r)

  pub halves_permute : 0 < b → Permutes b σ
  halves_permute some =
      record {
        inverse = inverse;
        below = below;
        inverse_below = inverse_below;
        back = back;
        onto = onto;
        zero_first = omega (arith, s.low 0 (omega arith), p.zero_first);
      }
