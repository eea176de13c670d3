-- The images of base b under the permutation of Kocis and Whiten, by those of base h, the larger half of b: twice each, and then twice each and one
-- more, where in an odd base the largest of them, which is b itself, is left out. Assumes nothing.
use mathlib.Core.Path.{◌≡◌, sym, ap, ap₂, ◌∙◌}
use mathlib.Core.Logic.{◌≢◌}
use mathlib.Core.List.{List, ◌∷◌, ◌++◌}
use Prim.Native.Nat.{ℕ, suc, ◌+◌, ◌-◌, ◌*◌, ◌/◌, ◌%◌, ◌^◌, ◌<◌, ◌≤◌}
use native.Mathlib.Nat.{le_refl}
use native.Mathlib.Omega.{arith}
use lib.ListN.{length, get_or, take, drop, length-drop, get_or-append}
use lib.Seq.{split_at, length-take-le, get_or-take, get_or-drop, get_or-append-add}
use borrow.Author.Tests.{le-ltb}
use Rattle.numbers.specs.Digits.{digit_count}
use Rattle.numbers.proofs.DigitLaws.{digit_count_step}
use Rattle.permutation.specs.Kocis.{less_from, sieve, bits_for, kocis}
use Rattle.permutation.proofs.SieveLaws.{less_append, less_all, sieve_less, sieve_length, entry, sieve_lower, sieve_upper}
use Rattle.permutation.proofs.KocisLaws.{entry_permutes, bits_reach}

-- ---- a list less its largest number, which stands at place u

module _ (d h u : ℕ) (reach : h ≤ 2 ^ d) (within : u < h) (last : entry d h u ≡ h - 1) where
  long : length (sieve d h) ≡ h
  long = sieve_length d h reach

  other : (i : ℕ) → i < h → (i ≡ u → ⊥) → entry d h i < h - 1
  other i l n =
      let p = entry_permutes d h reach in
      let apart : entry d h i ≢ h - 1 = λ e. n (sym (p.back i l) ∙ ap p.inverse (e ∙ sym last) ∙ p.back u within) in
      omega (arith, p.below i l)

  front_long : length (take u (sieve d h)) ≡ u
  front_long = length-take-le u (sieve d h) (omega (arith, long))

  back_long : length (drop (suc u) (sieve d h)) ≡ h - (u + 1)
  back_long = length-drop (suc u) (sieve d h) ∙ omega (arith, long)

  dropped : sieve d (h - 1) ≡ take u (sieve d h) ++ drop (suc u) (sieve d h)
  unfolding less_from
  dropped =
      let l = sieve d h in
      sym (sieve_less d h (h - 1) (omega arith)) ∙ ap (less_from (h - 1)) (split_at l u 0 (omega (arith, long)))
      ∙ less_append (h - 1) (take u l) (get_or l u 0 ∷ drop (suc u) l)
      ∙ ap₂ (λ (x y : List ℕ). x ++ y) (less_all (h - 1) (take u l) front)
      (rw (le-ltb (get_or l u 0) (h - 1) (omega (arith, last))) (less_all (h - 1) (drop (suc u) l) back))
    where
      front : (i : ℕ) → i < length (take u (sieve d h)) → get_or (take u (sieve d h)) i 0 < h - 1
      front i k =
          let m : i < u = omega (arith, front_long) in
          rw (get_or-take u (sieve d h) i 0 m) (other i (omega arith) (λ e. omega arith))

      back : (i : ℕ) → i < length (drop (suc u) (sieve d h)) → get_or (drop (suc u) (sieve d h)) i 0 < h - 1
      back i k = rw (get_or-drop (suc u) (sieve d h) i 0) (other (suc u + i) (omega (arith, back_long)) (λ e. omega arith))

  entry_before : (i : ℕ) → i < u → entry d (h - 1) i ≡ entry d h i
  entry_before i l =
      ap (λ (s : List ℕ). get_or s i 0) dropped
      ∙ get_or-append (take u (sieve d h)) (drop (suc u) (sieve d h)) 0 i (omega (arith, front_long)) ∙ get_or-take u (sieve d h) i 0 l

  entry_behind : (i : ℕ) → u < i → i < h → entry d (h - 1) (i - 1) ≡ entry d h i
  entry_behind i l m =
      let front = take u (sieve d h) in
      let back = drop (suc u) (sieve d h) in
      ap (λ (s : List ℕ). get_or s (i - 1) 0) dropped
      ∙ ap (λ (j : ℕ). get_or (front ++ back) j 0) {x = i - 1} {y = length front + (i - (u + 1))} (omega (arith, front_long))
      ∙ get_or-append-add front back (i - (u + 1)) 0 ∙ get_or-drop (suc u) (sieve d h) (i - (u + 1)) 0
      ∙ ap (λ (j : ℕ). entry d h j) {x = suc u + (i - (u + 1))} {y = i} (omega arith)

-- ---- base b by its larger half

module _ (b h : ℕ) (some : 2 ≤ b) (half : h ≡ (b + 1) / 2) where
  bits : bits_for b ≡ bits_for h + 1
  unfolding bits_for
  bits = digit_count_step 2 (b - 1) (le_refl 2) (λ e. omega arith) ∙ ap (λ (n : ℕ). digit_count 2 n + 1) {x = (b - 1) / 2} {y = h - 1} (omega arith)

  reach : b ≤ 2 ^ (bits_for h + 1)
  reach = omega (arith, bits_reach b, ap (λ (x : ℕ). 2 ^ x) bits)

  pub kocis_lower : (k : ℕ) → k < h → 2 * kocis h k ≡ kocis b k
  unfolding kocis
  kocis_lower k l =
      sym (ap (λ (x : ℕ). entry x b k) bits ∙ sieve_lower (bits_for h) b k reach (omega arith)
      ∙ ap (λ (x : ℕ). 2 * entry (bits_for h) x k) (sym half))

  upper : (k : ℕ) → h ≤ k → k < b → 2 * entry (bits_for h) (b / 2) (k - h) + 1 ≡ kocis b k
  unfolding kocis
  upper k l m =
      sym (ap (λ (x : ℕ). entry x b k) bits ∙ sieve_upper (bits_for h) b k reach (omega arith) m
      ∙ ap (λ (x : ℕ). 2 * entry (bits_for h) (b / 2) (k - x) + 1) (sym half))

  -- an even base has two equal halves
  pub kocis_even : b % 2 ≡ 0 → (i : ℕ) → i < h → 2 * kocis h i + 1 ≡ kocis b (h + i)
  unfolding kocis
  kocis_even even i l =
      ap₂ (λ (x j : ℕ). 2 * entry (bits_for h) x j + 1) {x = h} {y = b / 2} {u = i} {v = h + i - h} (omega arith) (omega arith)
      ∙ upper (h + i) (omega arith) (omega arith)

  -- in an odd base the upper half lacks the image at the place u of h - 1
  module _ (odd : b % 2 ≡ 1) (u : ℕ) (within : u < h) (last : kocis h u ≡ h - 1) where
    less : h - 1 ≡ b / 2
    less = omega arith

    pub kocis_before : (i : ℕ) → i < u → 2 * kocis h i + 1 ≡ kocis b (h + i)
    unfolding kocis
    kocis_before i l =
        ap (λ (x : ℕ). 2 * x + 1) (sym (entry_before (bits_for h) h u (bits_reach h) within last i l))
        ∙ ap₂ (λ (x j : ℕ). 2 * entry (bits_for h) x j + 1) {u = i} {v = h + i - h} less (omega arith)
        ∙ upper (h + i) (omega arith) (omega arith)

    pub kocis_behind : (i : ℕ) → u < i → i < h → 2 * kocis h i + 1 ≡ kocis b (h - 1 + i)
    unfolding kocis
    kocis_behind i l m =
        ap (λ (x : ℕ). 2 * x + 1) (sym (entry_behind (bits_for h) h u (bits_reach h) within last i l m))
        ∙ ap₂ (λ (x j : ℕ). 2 * entry (bits_for h) x j + 1) {u = i - 1} {v = h - 1 + i - h} less (omega arith)
        ∙ upper (h - 1 + i) (omega arith) (omega arith)
