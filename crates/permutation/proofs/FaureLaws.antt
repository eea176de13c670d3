-- Faure's permutation is one, with 0 first, in every base from 2 up: each rule makes a permutation of a permutation, and the base falls.
-- Assumes nothing.
use mathlib.Core.Path.{◌≡◌, refl, sym, ◌∙◌, subst}
use mathlib.Core.Logic.{⊎_elim}
use Prim.Native.Nat.{ℕ, zero, suc, ◌+◌, ◌-◌, ◌*◌, ◌/◌, ◌%◌, ◌<◌, ◌≤◌}
use native.Mathlib.Nat.{le_refl}
use native.Mathlib.Omega.{arith}
use Rattle.numbers.proofs.Cases.{lt_or_ge, eq_or_ne, even_or_odd}
use Rattle.permutation.specs.Permutes.{Permutes}
use Rattle.permutation.specs.Faure.{close_gap, open_gap, even_rule, odd_rule, faure_in, faure}
use Rattle.permutation.proofs.PermutationLaws.{identity_permutes, permutes_same}
use Rattle.permutation.proofs.HalvesLaws.{halves_permute}
use Rattle.permutation.proofs.FaureRules.{odd_centre, odd_aside, cond_low, cond_high, faure_two, faure_odd, even_lower, even_upper}

-- ---- the odd rule: opening a gap at the centre and closing it undo each other

close_open : (c r : ℕ) → close_gap c (open_gap c r) ≡ r
close_open c r =
    ⊎_elim (λ a. rw (cond_low c r r (r + 1) a) (cond_low c r r (r - 1) a))
    (λ a. rw (cond_high c r r (r + 1) a) (cond_high c (r + 1) (r + 1) (r + 1 - 1) (omega arith) ∙ omega arith)) (lt_or_ge r c)

open_close : (c k : ℕ) → (k ≡ c → ⊥) → open_gap c (close_gap c k) ≡ k
open_close c k f =
    ⊎_elim (λ a. rw (cond_low c k k (k - 1) a) (cond_low c k k (k + 1) a))
    (λ a. rw (cond_high c k k (k - 1) a) (cond_high c (k - 1) (k - 1) (k - 1 + 1) (omega arith) ∙ omega arith)) (lt_or_ge k c)

open_off : (c r : ℕ) → open_gap c r ≡ c → ⊥
open_off c r e =
    ⊎_elim (λ a. omega (arith, cond_low c r r (r + 1) a)) (λ a. omega (arith, cond_high c r r (r + 1) a)) (lt_or_ge r c)

open_below : (c r : ℕ) → r < 2 * c → open_gap c r < 2 * c + 1
open_below c r l =
    ⊎_elim (λ a. rw (cond_low c r r (r + 1) a) (omega arith)) (λ a. rw (cond_high c r r (r + 1) a) (omega arith)) (lt_or_ge r c)

pub close_below : (c k : ℕ) → (k ≡ c → ⊥) → k < 2 * c + 1 → close_gap c k < 2 * c
close_below c k f l =
    ⊎_elim (λ a. rw (cond_low c k k (k - 1) a) (omega arith)) (λ a. rw (cond_high c k k (k - 1) a) (omega arith)) (lt_or_ge k c)

-- the odd rule over an inverse undoes the odd rule
odd_undoes : (σ τ : ℕ → ℕ) (c : ℕ) → ((x : ℕ) → x < 2 * c → τ (σ x) ≡ x) → (k : ℕ) → k < 2 * c + 1 → odd_rule τ c (odd_rule σ c k) ≡ k
odd_undoes σ τ c back k l =
    ⊎_elim (λ e. rw (odd_centre σ c k e) (odd_centre τ c c refl ∙ sym e))
    (λ f. rw (odd_aside σ c k f, odd_aside τ c (open_gap c (σ (close_gap c k))) (open_off c (σ (close_gap c k))), close_open, back (close_gap c k) (close_below c k f l)) (open_close c k f))
    (eq_or_ne k c)

odd_below : (σ : ℕ → ℕ) (c : ℕ) → ((x : ℕ) → x < 2 * c → σ x < 2 * c) → (k : ℕ) → k < 2 * c + 1 → odd_rule σ c k < 2 * c + 1
odd_below σ c below k l =
    ⊎_elim (λ e. rw (odd_centre σ c k e) (omega arith))
    (λ f. rw (odd_aside σ c k f) (open_below c (σ (close_gap c k)) (below (close_gap c k) (close_below c k f l)))) (eq_or_ne k c)

odd_permutes : {σ : ℕ → ℕ} {c : ℕ} → Permutes (2 * c) σ → 0 < c → Permutes (2 * c + 1) (odd_rule σ c)
odd_permutes {σ} {c} p l =
    record {
      inverse = odd_rule p.inverse c;
      below = odd_below σ c p.below;
      inverse_below = odd_below p.inverse c p.inverse_below;
      back = odd_undoes σ p.inverse c p.back;
      onto = odd_undoes p.inverse σ c p.onto;
      zero_first = odd_aside σ c 0 (omega arith) ∙ rw (cond_low c 0 0 (0 - 1) l, p.zero_first) (cond_low c 0 0 (0 + 1) l);
    }

-- ---- every base

even_base : (b : ℕ) → 2 < b → b % 2 ≡ 0 → Permutes (b / 2) (faure (b / 2)) → Permutes b (faure b)
even_base b l e p =
    let h : b / 2 ≡ (b + 1) / 2 = omega arith in
    halves_permute
    (record {
      low = λ k q. even_lower b k l e (omega arith);
      high = λ k q r. rw (← h) (even_upper b k l e (omega arith));
    })
    (subst (λ (n : ℕ). Permutes n (faure (b / 2))) h p) p (omega arith)

odd_base : (b : ℕ) → 2 < b → b % 2 ≡ 1 → Permutes (b - 1) (faure (b - 1)) → Permutes b (faure b)
odd_base b l e p =
    permutes_same (λ k. faure_odd b k l e)
    (subst (λ (n : ℕ). Permutes n (odd_rule (faure (b - 1)) (b / 2))) {x = 2 * (b / 2) + 1} {y = b} (omega arith)
    (odd_permutes (subst (λ (n : ℕ). Permutes n (faure (b - 1))) {x = b - 1} {y = 2 * (b / 2)} (omega arith) p) (omega arith)))

permutes_in : (f b : ℕ) → b ≤ f → 2 ≤ b → Permutes b (faure b)
permutes_in zero b p l = absurd (omega arith)
permutes_in (suc f) b p l =
    ⊎_elim (λ s. permutes_same (λ k. faure_two b k (omega arith)) (identity_permutes b))
    (λ g. ⊎_elim (λ e. even_base b g e (permutes_in f (b / 2) (omega arith) (omega arith)))
    (λ e. odd_base b g e (permutes_in f (b - 1) (omega arith) (omega arith))) (even_or_odd b)) (lt_or_ge b 3)

-- Faure's is a permutation of 0 to b - 1 that sends 0 to 0, in every base.
pub faure_permutes : (b : ℕ) → 2 ≤ b → Permutes b (faure b)
faure_permutes b l = permutes_in b b (le_refl b) l

pub faure_below : (b k : ℕ) → 2 ≤ b → k < b → faure b k < b
faure_below b k l lt = (faure_permutes b l).below k lt

-- ---- R3

pub base_seven : (faure 7 0 ≡ 0) × (faure 7 1 ≡ 2) × (faure 7 2 ≡ 5) × (faure 7 3 ≡ 3) × (faure 7 4 ≡ 1) × (faure 7 5 ≡ 4) × (faure 7 6 ≡ 6)
unfolding faure faure_in even_rule odd_rule
base_seven = (refl, refl, refl, refl, refl, refl, refl)
