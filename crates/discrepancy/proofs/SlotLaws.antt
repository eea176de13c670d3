-- Slots of a Halton axis: over b^k indexes in a row the first k digits of the numerator take each value once, so that a number of slots that
-- divides b^k shares them evenly. Assumes nothing.
use mathlib.Core.Path.{◌≡◌, refl, sym, ap, ◌∙◌}
use mathlib.Core.Logic.{◌⊎◌, inl, inr, ⊎_elim}
use mathlib.Core.Bool.{Bool, true, false, and-true}
use Prim.Native.Nat.{ℕ, zero, suc, ◌+◌, ◌*◌, ◌/◌, ◌^◌, ◌≤◌, ◌<◌}
use native.Mathlib.Nat.{le_of_lt, one-mul, mul-le-mul_right, mul-div-mul_right, div-div-eq-div-mul, div-lt_iff_lt-mul, le-div_iff_mul-le}
use native.Mathlib.Omega.{arith}
use lib.Pow.{pow-add}
use lib.Dec.{ltb, eqb}
use borrow.Author.Tests.{lt-ltb, le-ltb, eq-eqb, ne_eqb}
use Rattle.numbers.specs.Digits.{numerator_to}
use Rattle.numbers.specs.Count.{bit, count}
use Rattle.numbers.proofs.Cases.{lt_or_ge, lt_eq_gt, eq_iff}
use Rattle.numbers.proofs.DigitLaws.{pow_pos}
use Rattle.numbers.proofs.NumeratorLaws.{numerator_low, numerator_first_digits}
use Rattle.numbers.proofs.CountLaws.{count_ext, count_split, count_value, count_turn}
use Rattle.permutation.specs.Permutes.{Permutes}
use Rattle.permutation.proofs.PermutationLaws.{numerator_permutes}
use Rattle.discrepancy.proofs.CutLaws.{count_below_none, count_below_more}

-- ---- the images of a permutation

-- a number in part j of parts of m: below the next part and not below this one
part_split : (x m j : ℕ) → 0 < m → bit (ltb x (suc j * m)) ≡ bit (ltb x (j * m)) + bit (eqb (x / m) j)
part_split x m j pos = go (lt_eq_gt (x / m) j)
  where
    below : (c : ℕ) → x / m < c → ltb x (c * m) ≡ true
    below c l = lt-ltb x (c * m) ((div-lt_iff_lt-mul pos).0 l)

    above : (c : ℕ) → c ≤ x / m → ltb x (c * m) ≡ false
    above c l = le-ltb x (c * m) ((le-div_iff_mul-le pos).0 l)

    go : (x / m < j) ⊎ ((x / m ≡ j) ⊎ (j < x / m)) → bit (ltb x (suc j * m)) ≡ bit (ltb x (j * m)) + bit (eqb (x / m) j)
    go (inl l) = rw (below (suc j) (omega arith), below j l, ne_eqb (x / m) j (λ e. omega arith)) refl
    go (inr (inl e)) = rw (below (suc j) (omega arith), above j (omega arith), eq-eqb (x / m) j e) refl
    go (inr (inr l)) = rw (above (suc j) l, above j (omega arith), ne_eqb (x / m) j (λ e. omega arith)) refl

module _ {M : ℕ} {π : ℕ → ℕ} (p : Permutes M π) where
  -- each number below M is the image of one
  one_image : (c : ℕ) → c < M → count (λ r. eqb (π r) c) M ≡ 1
  one_image c l = count_ext (λ r. eqb (π r) c) (λ r. eqb r (p.inverse c)) M same ∙ count_value (p.inverse c) M (p.inverse_below c l)
    where
      same : (r : ℕ) → r < M → eqb (π r) c ≡ eqb r (p.inverse c)
      same r h = eq_iff (π r) c r (p.inverse c) (λ e. sym (p.back r h) ∙ ap p.inverse e) (λ e. ap π e ∙ p.onto c l)

  -- so c of them are below c
  images_below : (c : ℕ) → c ≤ M → count (λ r. ltb (π r) c) M ≡ c
  images_below zero h = simp and-true at (count_below_none π (λ r. true) M)
  images_below (suc c) h = (simp and-true at (count_below_more π (λ r. true) c M)) ∙ rw (images_below c (le_of_lt h), one_image c h) (omega arith)

  -- and each of `slots` parts of m has its share
  images_shared : (slots m : ℕ) → slots * m ≡ M → 0 < m → (j : ℕ) → j < slots → count (λ r. eqb (π r / m) j) M ≡ m
  images_shared slots m whole pos j l =
      omega (
        arith,
        count_split (λ r. ltb (π r) (suc j * m)) (λ r. ltb (π r) (j * m)) (λ r. eqb (π r / m) j) M (λ r. part_split (π r) m j pos),
        images_below (suc j * m) (omega (arith, mul-le-mul_right m l)),
        images_below (j * m) (omega (arith, mul-le-mul_right m l)),
      )

-- ---- slots of an axis

-- the slot of an index is told by its first k digits, where the number of slots divides b^k
slot_of_digits : (x slots m P Q : ℕ) → 0 < slots → slots * m ≡ P → x * slots / (P * Q) ≡ x / Q / m
slot_of_digits x slots m P Q pos e =
    ap (λ (d : ℕ). x * slots / d) {x = P * Q} {y = Q * m * slots} (rw (← e) (omega arith))
    ∙ mul-div-mul_right x (Q * m) pos ∙ sym (div-div-eq-div-mul x Q m)

-- Of b^k indexes in a row each slot has the same number.
pub slots_share : {b : ℕ} {σ : ℕ → ℕ} → Permutes b σ → 0 < b → (k e slots m start : ℕ) → slots * m ≡ b ^ k → (j : ℕ) → j < slots
    → count (λ t. eqb (numerator_to σ b (k + e) (start + t) * slots / b ^ (k + e)) j) (b ^ k) ≡ m
slots_share {b} {σ} p pos k e slots m start whole j l =
    count_ext _ (λ t. test (start + t)) (b ^ k) (λ t h. ap (λ (x : ℕ). eqb x j) (by_digits (start + t)))
    ∙ count_turn test (b ^ k) turn start
    ∙ images_shared (numerator_permutes pos p k) slots m whole m_pos j l
  where
    -- slot j, by the first k digits
    test : ℕ → Bool
    test n = eqb (numerator_to σ b k n / m) j

    by_digits : (n : ℕ) → numerator_to σ b (k + e) n * slots / b ^ (k + e) ≡ numerator_to σ b k n / m
    by_digits n =
        rw (pow-add b k e)
        (slot_of_digits (numerator_to σ b (k + e) n) slots m (b ^ k) (b ^ e) (omega arith) whole
        ∙ ap (λ (x : ℕ). x / m) (numerator_first_digits σ b p.below pos k e n))

    turn : (n : ℕ) → test (b ^ k + n) ≡ test n
    turn n = ap (λ (x : ℕ). eqb (x / m) j) (ap (λ (x : ℕ). numerator_to σ b k (x + n)) (sym (one-mul (b ^ k))) ∙ numerator_low σ b pos k 1 n)

    m_pos : 0 < m
    m_pos =
        ⊎_elim (λ h. h)
        (λ h. absurd (omega (arith, whole, pow_pos b k pos, ap (λ (x : ℕ). slots * x) {x = m} {y = 0} (omega arith))))
        (lt_or_ge 0 m)
