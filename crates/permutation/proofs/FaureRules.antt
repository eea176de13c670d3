-- Faure's rule as 01-scope.md states it: one law a case, at every base. Assumes nothing.
use mathlib.Core.Path.{◌≡◌, refl, sym, ap, ◌∙◌, fun_ext}
use mathlib.Core.Logic.{⊎_elim}
use mathlib.Core.Bool.{Bool, true, false, cond}
use Prim.Native.Nat.{ℕ, zero, suc, ◌+◌, ◌-◌, ◌*◌, ◌/◌, ◌%◌, ◌<◌, ◌≤◌}
use native.Mathlib.Nat.{le_refl}
use native.Mathlib.Omega.{arith}
use lib.Dec.{leb, ltb, eqb}
use borrow.Author.Tests.{lt-ltb, le-ltb, le-leb, lt-leb, eq-eqb, ne_eqb, leb-false}
use Rattle.numbers.proofs.Cases.{lt_or_ge}
use Rattle.permutation.specs.Faure.{even_rule, close_gap, open_gap, odd_rule, rule_at, faure_in, faure}

-- ---- the two rules over any σ, case by case

module _ (σ : ℕ → ℕ) where
  pub even_low : (h k : ℕ) → k < h → even_rule σ h k ≡ 2 * σ k
  unfolding even_rule
  even_low h k p = rw (lt-ltb k h p)

  pub even_high : (h k : ℕ) → h ≤ k → even_rule σ h k ≡ 2 * σ (k - h) + 1
  unfolding even_rule
  even_high h k p = rw (le-ltb k h p)

  pub odd_centre : (c k : ℕ) → k ≡ c → odd_rule σ c k ≡ c
  unfolding odd_rule
  odd_centre c k p = rw (eq-eqb k c p)

  pub odd_aside : (c k : ℕ) → (k ≡ c → ⊥) → odd_rule σ c k ≡ open_gap c (σ (close_gap c k))
  unfolding odd_rule
  odd_aside c k p = rw (ne_eqb k c p)

-- the first of two numbers where k is below c, and the second from c up
pub cond_low : (c k x y : ℕ) → k < c → cond (ltb k c) x y ≡ x
cond_low c k x y p = rw (lt-ltb k c p)

pub cond_high : (c k x y : ℕ) → c ≤ k → cond (ltb k c) x y ≡ y
cond_high c k x y p = rw (le-ltb k c p)

-- ---- the rule at each base

rule_same : (small even : Bool) (ρ ρ' : ℕ → ℕ → ℕ) (b k : ℕ) → (small ≡ false → (m : ℕ) → m < b → (x : ℕ) → ρ m x ≡ ρ' m x)
    → (small ≡ false → 2 < b) → rule_at small even ρ b k ≡ rule_at small even ρ' b k
rule_same true even ρ ρ' b k same big = refl
rule_same false true ρ ρ' b k same big =
    let l : 2 < b = big refl in
    ap (λ (σ : ℕ → ℕ). even_rule σ (b / 2) k) (fun_ext (same refl (b / 2) (omega arith)))
rule_same false false ρ ρ' b k same big =
    let l : 2 < b = big refl in
    ap (λ (σ : ℕ → ℕ). odd_rule σ (b / 2) k) (fun_ext (same refl (b - 1) (omega arith)))

fuel : (f g b k : ℕ) → b ≤ f → b ≤ g → faure_in f b k ≡ faure_in g b k
unfolding faure_in
fuel zero zero b k p q = refl
fuel zero (suc g) b k p q = sym (rw (le-leb b 2 (omega arith)))
fuel (suc f) zero b k p q = rw (le-leb b 2 (omega arith))
fuel (suc f) (suc g) b k p q =
    rule_same (leb b 2) (eqb (b % 2) 0) (faure_in f) (faure_in g) b k
    (λ _ m l x. fuel f g m x (omega arith) (omega arith)) (leb-false b 2)

-- base 2 keeps its digits
pub faure_two : (b k : ℕ) → b ≤ 2 → faure b k ≡ k
unfolding faure faure_in
faure_two b k p = go b p
  where
    go : (f : ℕ) → b ≤ 2 → faure_in f b k ≡ k
    go zero p = refl
    go (suc f) p = rw (le-leb b 2 p)

-- an even base above 2 takes the even rule over the images of base b / 2
pub faure_even : (b k : ℕ) → 2 < b → b % 2 ≡ 0 → faure b k ≡ even_rule (faure (b / 2)) (b / 2) k
unfolding faure faure_in
faure_even b k l e = go b (le_refl b)
  where
    go : (f : ℕ) → b ≤ f → faure_in f b k ≡ even_rule (λ x. faure_in (b / 2) (b / 2) x) (b / 2) k
    go zero p = absurd (omega arith)
    go (suc f) p =
        rw (lt-leb b 2 l, eq-eqb (b % 2) 0 e)
        (ap (λ (σ : ℕ → ℕ). even_rule σ (b / 2) k) (fun_ext (λ x. fuel f (b / 2) (b / 2) x (omega arith) (omega arith))))

-- an odd base takes the odd rule over the images of base b - 1
pub faure_odd : (b k : ℕ) → 2 < b → b % 2 ≡ 1 → faure b k ≡ odd_rule (faure (b - 1)) (b / 2) k
unfolding faure faure_in
faure_odd b k l e = go b (le_refl b)
  where
    go : (f : ℕ) → b ≤ f → faure_in f b k ≡ odd_rule (λ x. faure_in (b - 1) (b - 1) x) (b / 2) k
    go zero p = absurd (omega arith)
    go (suc f) p =
        rw (lt-leb b 2 l, ne_eqb (b % 2) 0 (omega arith))
        (ap (λ (σ : ℕ → ℕ). odd_rule σ (b / 2) k) (fun_ext (λ x. fuel f (b - 1) (b - 1) x (omega arith) (omega arith))))

-- bases 2 and 3 keep their digits
three : (k : ℕ) → k < 3 → faure 3 k ≡ k
unfolding faure faure_in odd_rule
three zero h = refl
three (suc zero) h = refl
three (suc (suc zero)) h = refl
three (suc (suc (suc k))) h = absurd (omega arith)

pub faure_small : (b k : ℕ) → b < 4 → k < b → k ≡ faure b k
faure_small b k l h = sym (⊎_elim (λ p. faure_two b k (omega arith)) (λ p. at (omega arith)) (lt_or_ge b 3))
  where
    at : b ≡ 3 → faure b k ≡ k
    at e = rw e (three k (omega arith))

-- ---- 01's sentences

-- for an even base b above 2 and half h = b / 2, digit k below h goes to twice its image in base h
pub even_lower : (b k : ℕ) → 2 < b → b % 2 ≡ 0 → k < b / 2 → faure b k ≡ 2 * faure (b / 2) k
even_lower b k l e lt = faure_even b k l e ∙ even_low (faure (b / 2)) (b / 2) k lt

-- and any other k to twice the image of k - h, plus 1
pub even_upper : (b k : ℕ) → 2 < b → b % 2 ≡ 0 → b / 2 ≤ k → faure b k ≡ 2 * faure (b / 2) (k - b / 2) + 1
even_upper b k l e le = faure_even b k l e ∙ even_high (faure (b / 2)) (b / 2) k le

-- both in one: the image of the digit's place in its half, and which half it is
abbrev pub place_in : ℕ → ℕ → ℕ
place_in h k = cond (ltb k h) k (k - h)

abbrev pub half_of : ℕ → ℕ → ℕ
half_of h k = cond (ltb k h) 0 1

pub even_halves : (b k : ℕ) → 2 < b → b % 2 ≡ 0 → faure b k ≡ 2 * faure (b / 2) (place_in (b / 2) k) + half_of (b / 2) k
even_halves b k l e =
    ⊎_elim (λ lt. even_lower b k l e lt ∙ rw (lt-ltb k (b / 2) lt) (omega arith))
    (λ le. even_upper b k l e le ∙ rw (le-ltb k (b / 2) le) refl) (lt_or_ge k (b / 2))

pub place_below : (h k : ℕ) → k < 2 * h → place_in h k < h
place_below h k l = ⊎_elim (λ lt. rw (lt-ltb k h lt) lt) (λ le. rw (le-ltb k h le) (omega arith)) (lt_or_ge k h)

-- for odd b with c the whole part of b / 2: k = c stays c
pub odd_middle : (b k : ℕ) → 2 < b → b % 2 ≡ 1 → k ≡ b / 2 → faure b k ≡ b / 2
odd_middle b k l e q = faure_odd b k l e ∙ odd_centre (faure (b - 1)) (b / 2) k q

-- for k below c let r be the image of k in base b - 1, for k above c that of k - 1
module _ {b k r : ℕ} (l : 2 < b) (e : b % 2 ≡ 1) (off : k ≡ b / 2 → ⊥) (is : r ≡ faure (b - 1) (close_gap (b / 2) k)) where
  aside : faure b k ≡ open_gap (b / 2) r
  aside = faure_odd b k l e ∙ odd_aside (faure (b - 1)) (b / 2) k off ∙ ap (open_gap (b / 2)) (sym is)

  -- the answer is r where r is below c
  pub odd_kept : r < b / 2 → faure b k ≡ r
  odd_kept lt = aside ∙ cond_low (b / 2) r r (r + 1) lt

  -- else r + 1
  pub odd_raised : b / 2 ≤ r → faure b k ≡ r + 1
  odd_raised le = aside ∙ cond_high (b / 2) r r (r + 1) le
