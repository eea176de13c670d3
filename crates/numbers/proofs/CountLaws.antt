-- How many numbers pass a test: equal tests count alike, a split test adds up, a run may be cut in two, a limit takes the first ones, and a test
-- with a period may begin anywhere. Assumes nothing.
use mathlib.Core.Path.{◌≡◌, refl, sym, ap, ap₂, ◌∙◌}
use mathlib.Core.Logic.{◌⊎◌, inl, inr}
use mathlib.Core.Bool.{Bool, true, false, ◌&&◌}
use Prim.Native.Nat.{ℕ, zero, suc, ◌+◌, ◌-◌, ◌<◌, ◌≤◌}
use native.Mathlib.Nat.{add-zero, add-suc, add_assoc, add-sub_of_le, le-add_right, le_of_suc-le-suc, eq-or-lt_of_le}
use native.Mathlib.Omega.{arith}
use lib.Dec.{T, ltb, eqb}
use borrow.Author.Tests.{lt-ltb, le-ltb, eq-eqb, ne_eqb}
use Rattle.numbers.specs.Count.{bit, count}

pub count_ext : (p q : ℕ → Bool) (n : ℕ) → ((i : ℕ) → i < n → p i ≡ q i) → count p n ≡ count q n
unfolding count
count_ext p q zero h = refl
count_ext p q (suc n) h = ap₂ ◌+◌ (count_ext p q n (λ i l. h i (omega arith))) (ap bit (h n (omega arith)))

-- a test that splits in two adds up
pub count_split : (p q r : ℕ → Bool) (n : ℕ) → ((i : ℕ) → bit (p i) ≡ bit (q i) + bit (r i)) → count p n ≡ count q n + count r n
unfolding count
count_split p q r zero h = refl
count_split p q r (suc n) h = omega (arith, h n, count_split p q r n h)

pub count_le : (p : ℕ → Bool) (n : ℕ) → count p n ≤ n
unfolding count
count_le p zero = omega arith
count_le p (suc n) = omega (arith, count_le p n, bit_le (p n))
  where
    bit_le : (b : Bool) → bit b ≤ 1
    bit_le true = omega arith
    bit_le false = omega arith

pub count_all : (n : ℕ) → count (λ i. true) n ≡ n
unfolding count
count_all zero = refl
count_all (suc n) = rw (count_all n) (omega arith)

pub count_none : (p : ℕ → Bool) (n : ℕ) → ((i : ℕ) → p i ≡ false) → count p n ≡ 0
unfolding count
count_none p zero h = refl
count_none p (suc n) h = rw (h n, count_none p n h)

-- of one number at most, none passes or the first does
pub count_few : (p : ℕ → Bool) (n : ℕ) → n < 2 → (count p n ≡ 0) ⊎ ((count p n ≡ 1) × T (p 0) × (n ≡ 1))
unfolding count
count_few p zero h = inl refl
count_few p (suc zero) h = go (p 0)
  where
    go : (b : Bool) → (0 + bit b ≡ 0) ⊎ ((0 + bit b ≡ 1) × T b × (suc zero ≡ 1))
    go true = inr (refl, tt, refl)
    go false = inl refl
count_few p (suc (suc n)) h = absurd (omega arith)

-- a run cut in two consecutive parts
pub count_parts : (p : ℕ → Bool) (m n : ℕ) → count p (m + n) ≡ count p m + count (λ i. p (m + i)) n
unfolding count
count_parts p m zero = ap (count p) (add-zero m) ∙ sym (add-zero (count p m))
count_parts p m (suc n) = rw (add-suc, count_parts p m n) (add_assoc (count p m) (count (λ i. p (m + i)) n) (bit (p (m + n))))

-- those below m alone, of n numbers
pub count_first : (p q : ℕ → Bool) (m n : ℕ) → m ≤ n → ((i : ℕ) → p i ≡ ltb i m && q i) → count p n ≡ count q m
count_first p q m n h same =
    ap (count p) (sym (add-sub_of_le h)) ∙ count_parts p m (n - m) ∙ rw (count_ext p q m below, count_none (λ i. p (m + i)) (n - m) above) (add-zero (count q m))
  where
    below : (i : ℕ) → i < m → p i ≡ q i
    below i l = same i ∙ rw (lt-ltb i m l) refl

    above : (i : ℕ) → p (m + i) ≡ false
    above i = same (m + i) ∙ rw (le-ltb (m + i) m (le-add_right m i)) refl

-- one number below n is a
pub count_value : (a n : ℕ) → a < n → count (λ i. eqb i a) n ≡ 1
unfolding count
count_value a zero l = absurd (omega arith)
count_value a (suc n) l = go (eq-or-lt_of_le (le_of_suc-le-suc l)) (count_value a n)
  where
    go : (a ≡ n) ⊎ (a < n) → (a < n → count (λ i. eqb i a) n ≡ 1) → count (λ i. eqb i a) n + bit (eqb n a) ≡ 1
    go (inl e) again =
        rw (
          eq-eqb n a (sym e),
          count_ext (λ i. eqb i a) (λ i. false) n (λ i h. ne_eqb i a (λ d. omega arith)),
          count_none (λ i. false) n (λ i. refl),
        ) refl
    go (inr h) again = rw (again h, ne_eqb n a (λ d. omega arith)) refl

-- a test with the period n passes as many of any n numbers in a row
pub count_turn : (p : ℕ → Bool) (n : ℕ) → ((i : ℕ) → p (n + i) ≡ p i) → (a : ℕ) → count (λ i. p (a + i)) n ≡ count p n
count_turn p n period a = omega (arith, count_parts p a n, count_parts p n a, ap (count p) {x = a + n} {y = n + a} (omega arith), again)
  where
    again : count (λ i. p (n + i)) a ≡ count p a
    again = count_ext (λ i. p (n + i)) p a (λ i h. period i)
