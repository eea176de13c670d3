-- A fraction against a cut, digit by digit: the first digit decides, or it leaves the answer to the other digits. Assumes nothing.
use mathlib.Core.Path.{◌≡◌, ap, sym, ◌∙◌}
use mathlib.Core.Logic.{◌⊎◌, inl, inr}
use mathlib.Core.Bool.{Bool, true, false, ◌&&◌, and-true, and-false, and_comm}
use Prim.Native.Nat.{ℕ, zero, suc, ◌+◌, ◌*◌, ◌/◌, ◌%◌, ◌^◌, ◌<◌, ◌≤◌}
use native.Mathlib.Nat.{add-zero, zero-add, mod-lt, le_of_lt, div-add-mod', mul-le-mul_right, mul-lt-mul_of_pos_right}
use native.Mathlib.Numerals.{suc-eq-add-one}
use native.Mathlib.Omega.{arith}
use lib.Dec.{ltb, eqb}
use borrow.Author.Tests.{ltb-true, lt-ltb, le-ltb, eq-eqb, ne_eqb}
use Rattle.numbers.specs.Digits.{numerator_to}
use Rattle.numbers.specs.Count.{bit, count}
use Rattle.numbers.specs.Cut.{below_cut}
use Rattle.numbers.proofs.Cases.{lt_eq_gt, lt_iff}
use Rattle.numbers.proofs.DigitLaws.{pow_one_more}
use Rattle.numbers.proofs.NumeratorLaws.{numerator_first, numerator_lt}
use Rattle.numbers.proofs.CountLaws.{count_none, count_split}

-- ---- one digit against another

-- The test x is decided by the digit d against c, and where they are equal by y.
pub record Decided (d c : ℕ) (x y : Bool) : Type 0 where
  pub less : d < c → x ≡ true
  pub equal : d ≡ c → x ≡ y
  pub greater : c < d → x ≡ false

-- so it passes in two ways, of which never both hold
pub decided_split : {d c : ℕ} {x y : Bool} → Decided d c x y → (z : Bool) → bit (z && x) ≡ bit (ltb d c && z) + bit (eqb d c && (z && y))
decided_split {d} {c} {x} {y} h z = go (lt_eq_gt d c)
  where
    go : (d < c) ⊎ ((d ≡ c) ⊎ (c < d)) → bit (z && x) ≡ bit (ltb d c && z) + bit (eqb d c && (z && y))
    go (inl l) = rw (h.less l, lt-ltb d c l, ne_eqb d c (λ e. omega arith), and-true z) (sym (add-zero (bit z)))
    go (inr (inl e)) = rw (h.equal e, le-ltb d c (omega arith), eq-eqb d c e) (sym (zero-add (bit (z && y))))
    go (inr (inr l)) = rw (h.greater l, le-ltb d c (le_of_lt l), ne_eqb d c (λ e. omega arith), and-false z)

-- counting by a digit d of each number: none is below 0, and each time one digit more
pub count_below_none : (d : ℕ → ℕ) (z : ℕ → Bool) (n : ℕ) → count (λ i. ltb (d i) 0 && z i) n ≡ 0
count_below_none d z n = count_none (λ i. ltb (d i) 0 && z i) n (λ i. rw (le-ltb (d i) 0 (omega arith)))

pub count_below_more : (d : ℕ → ℕ) (z : ℕ → Bool) (c n : ℕ)
    → count (λ i. ltb (d i) (suc c) && z i) n ≡ count (λ i. ltb (d i) c && z i) n + count (λ i. eqb (d i) c && z i) n
count_below_more d z c n =
    count_split _ _ _ n (λ i. rw (and_comm (ltb (d i) (suc c)) (z i)) (decided_split (decided i) (z i) ∙ rw (and-true (z i))))
  where
    decided : (i : ℕ) → Decided (d i) c (ltb (d i) (suc c)) true
    decided i = record { less = λ l. lt-ltb (d i) (suc c) (omega arith); equal = λ e. lt-ltb (d i) (suc c) (omega arith); greater = λ l. le-ltb (d i) (suc c) l }

-- ---- a fraction against a cut

-- nothing lies below the cut 0
pub below_cut_pos : (x d u q : ℕ) → below_cut x d u q ≡ true → 0 < u
unfolding below_cut
below_cut_pos x d zero q e = absurd (omega (arith, ltb-true (x * q) (0 * d) e))
below_cut_pos x d (suc u) q e = omega arith

-- everything lies below the cut 1
pub below_cut_one : (x d q : ℕ) → x < d → 0 < q → below_cut x d q q ≡ true
unfolding below_cut
below_cut_one x d q l h = lt-ltb (x * q) (q * d) (omega (arith, mul-lt-mul_of_pos_right l h))

-- The fraction with the first digit d and the rest x / p, against the cut with the first digit u * b / q.
pub below_cut_digit : (d x p b u q : ℕ) → x < p → 0 < q
    → Decided d (u * b / q) (below_cut (d * p + x) (p * b) u q) (below_cut x p (u * b % q) q)
unfolding below_cut
below_cut_digit d x p b u q l h =
    record {
      less = λ g. lt-ltb A Z (omega (arith, whole, inner, mul-le-mul_right (p * q) g));
      equal = λ e. lt_iff A Z (x * q) (v * p) (λ g. omega (arith, whole, same e)) (λ g. omega (arith, whole, same e));
      greater = λ g. le-ltb A Z (omega (arith, whole, rest, mul-le-mul_right (p * q) g));
    }
  where
    c : ℕ
    c = u * b / q

    v : ℕ
    v = u * b % q

    A : ℕ
    A = (d * p + x) * q

    Z : ℕ
    Z = u * (p * b)

    whole : (c * q + v) * p ≡ u * b * p
    whole = ap (λ (y : ℕ). y * p) (div-add-mod' (u * b) q)

    inner : x * q < p * q
    inner = mul-lt-mul_of_pos_right l h

    rest : v * p ≤ q * p
    rest = mul-le-mul_right p (le_of_lt (mod-lt (u * b) h))

    same : d ≡ c → d * p * q ≡ c * p * q
    same e = ap (λ (y : ℕ). y * p * q) e

-- ---- the fraction of an index

-- the fraction of index n, read to k digits, lies below the cut u / q
abbrev pub index_in_cut : (ℕ → ℕ) → ℕ → ℕ → ℕ → ℕ → ℕ → Bool
index_in_cut σ b k u q n = below_cut (numerator_to σ b k n) (b ^ k) u q

module _ (σ : ℕ → ℕ) (b : ℕ) (below : (d : ℕ) → d < b → σ d < b) (pos : 0 < b) where
  -- its first digit against the cut's, and its other digits against the cut's rest
  pub in_cut_digit : (k u q n : ℕ) → 0 < q
      → Decided (σ (n % b)) (u * b / q) (index_in_cut σ b (suc k) u q n) (index_in_cut σ b k (u * b % q) q (n / b))
  in_cut_digit k u q n h =
      rw (suc-eq-add-one k, numerator_first σ b k n, pow_one_more b k)
      (below_cut_digit (σ (n % b)) (numerator_to σ b k (n / b)) (b ^ k) b u q (numerator_lt σ b below pos k (n / b)) h)

  -- every index lies below the cut 1
  pub in_cut_whole : (k q n : ℕ) → 0 < q → index_in_cut σ b k q q n ≡ true
  in_cut_whole k q n h = below_cut_one (numerator_to σ b k n) (b ^ k) q (numerator_lt σ b below pos k n) h
