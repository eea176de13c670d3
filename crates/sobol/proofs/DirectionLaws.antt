-- The m's of the recurrence are odd and below 2^i, since every term but m_(i+1-d) is even; so the direction numbers are below 2^32. And what the
-- loops that fill the lists show at each turn. Assumes nothing.
use mathlib.Core.Path.{◌≡◌, refl, sym, ap, ap₂, ◌∙◌, subst}
use mathlib.Core.Bool.{Bool, cond}
use mathlib.Core.List.{List, [], ◌∷◌, ◌++◌}
use mathlib.Core.Logic.{⊎_elim}
use Prim.Native.Nat.{ℕ, zero, suc, ◌+◌, ◌-◌, ◌*◌, ◌/◌, ◌%◌, ◌^◌, ◌≤◌, ◌<◌}
use native.Mathlib.Omega.{arith}
use native.Mathlib.Numerals.{add-one}
use native.Mathlib.Nat.{not-suc-le-zero, le_refl, lt_of_lt_of_le, zero-add, add-zero, zero-mul}
use lib.Pow.{pow_pos, pow_mono, shl_lt, shl_exact}
use lib.ListN.{length, get_or, take, set, length-append, get_or-append, get_or-eq_default}
use lib.Seq.{get_or_at, get_or-take, take-append-le, take_all, take-suc-set}
use lib.Bits.{bit_xor, bit_and, xor_lt, xor_zero_r, shifted_even}
use borrow.Author.Tests.{lt-ltb, le-ltb}
use Rattle.binary.specs.Gf2.{times}
use Rattle.numbers.proofs.Cases.{lt_or_ge}
use Rattle.binary.proofs.XorLaws.{xor_odd}
use Rattle.binary.proofs.CombinationLaws.{times_lt, times_set, times_clear}
use Rattle.sobol.specs.Directions.{m_term, m_terms, m_rule, m_next, m_list, scaled, directions, OddBelow, AllOddBelow}

-- ---- a shift by k loses no digit of an m at place j

pub shifted_lt : (n : ℕ) (ms : List ℕ) (j k : ℕ) → AllOddBelow n ms → j < n → get_or ms j 0 * 2 ^ k < 2 ^ (suc j + k)
unfolding AllOddBelow
shifted_lt n ms j k g h = shl_lt (suc j) k (g j h).below

pub shifted_exact : (n : ℕ) (ms : List ℕ) (j k : ℕ) → AllOddBelow n ms → j < n → suc j + k ≤ 64 → get_or ms j 0 * 2 ^ k % 2 ^ 64 ≡ get_or ms j 0 * 2 ^ k
unfolding AllOddBelow
shifted_exact n ms j k g h fits = shl_exact (suc j) k 64 (g j h).below fits

-- ---- the recurrence keeps the m's odd and below their powers of two

module _ (d p : ℕ) (ms : List ℕ) (i : ℕ) where
  term_lt : (k : ℕ) → suc k ≤ i → AllOddBelow i ms → m_term d p ms i (suc k) < 2 ^ suc i
  term_lt k h g =
      let e : suc (i - suc k) + suc k ≡ suc i = omega arith in
      times_lt (suc i) (p / 2 ^ (d - suc k) % 2) (get_or ms (i - suc k) 0 * 2 ^ suc k) (rw e at (shifted_lt i ms (i - suc k) (suc k) g (omega arith)))

  term_even : (k : ℕ) → m_term d p ms i (suc k) % 2 ≡ 0
  term_even k = by_coefficient (p / 2 ^ (d - suc k) % 2)
    where
      by_coefficient : (a : ℕ) → times a (get_or ms (i - suc k) 0 * 2 ^ suc k) % 2 ≡ 0
      by_coefficient zero = refl
      by_coefficient (suc a) = shifted_even (get_or ms (i - suc k) 0) k

  terms_odd_below : (k : ℕ) → 1 ≤ d → d ≤ i → k ≤ i → AllOddBelow i ms → OddBelow i (m_terms d p ms i k)
  unfolding m_terms AllOddBelow
  terms_odd_below zero h hd hk g =
      let first = g (i - d) (omega arith) in
      record { odd = first.odd; below = lt_of_lt_of_le first.below (pow_mono {i = suc (i - d)} {j = suc i} (omega arith)) }
  terms_odd_below (suc k) h hd hk g =
      let ih : OddBelow i (m_terms d p ms i k) = terms_odd_below k h hd (omega arith) g in
      record {
        odd = omega (arith, xor_odd (m_terms d p ms i k) (m_term d p ms i (suc k)), ih.odd, term_even k);
        below = xor_lt (suc i) (m_terms d p ms i k) (m_term d p ms i (suc k)) ih.below (term_lt k hk g);
      }

pub m_rule_odd_below : (d p : ℕ) (ms : List ℕ) (i : ℕ) → d ≤ i → AllOddBelow i ms → OddBelow i (m_rule d p ms i)
unfolding m_rule
m_rule_odd_below zero p ms i h g = record { odd = refl; below = lt_of_lt_of_le (le_refl 2) (pow_mono {i = 1} {j = suc i} (omega arith)) }
m_rule_odd_below (suc d) p ms i h g = terms_odd_below (suc d) p ms i (suc d) (omega arith) h h g

module _ (d p : ℕ) (given : List ℕ) where
  pub m_next_given : (i : ℕ) (ms : List ℕ) → i < d → m_next d p given i ms ≡ get_or given i 0
  m_next_given i ms h = ap (λ (b : Bool). cond b (get_or given i 0) (m_rule d p ms i)) (lt-ltb i d h)

  pub m_next_rule : (i : ℕ) (ms : List ℕ) → d ≤ i → m_next d p given i ms ≡ m_rule d p ms i
  m_next_rule i ms h = ap (λ (b : Bool). cond b (get_or given i 0) (m_rule d p ms i)) (le-ltb i d h)

  pub m_list_length : (n : ℕ) → length (m_list d p given n) ≡ n
  unfolding m_list
  m_list_length zero = refl
  m_list_length (suc n) =
      length-append (m_list d p given n) (m_next d p given n (m_list d p given n) ∷ []) ∙ ap (λ (x : ℕ). x + 1) (m_list_length n) ∙ add-one n

  -- what is added stands last, and the others stay
  m_list_last : (n : ℕ) → get_or (m_list d p given (suc n)) n 0 ≡ m_next d p given n (m_list d p given n)
  unfolding m_list
  m_list_last n = get_or_at (m_list d p given n) (m_next d p given n (m_list d p given n)) [] 0 n (m_list_length n)

  m_list_before : (n i : ℕ) → i < n → get_or (m_list d p given (suc n)) i 0 ≡ get_or (m_list d p given n) i 0
  unfolding m_list
  m_list_before n i h = get_or-append (m_list d p given n) (m_next d p given n (m_list d p given n) ∷ []) 0 i (omega (arith, m_list_length n))

  m_next_odd_below : AllOddBelow d given → (n : ℕ) (ms : List ℕ) → AllOddBelow n ms → OddBelow n (m_next d p given n ms)
  unfolding AllOddBelow
  m_next_odd_below g n ms h =
      ⊎_elim (λ l. rw (m_next_given n ms l) (g n l)) (λ l. rw (m_next_rule n ms l) (m_rule_odd_below d p ms n l h)) (lt_or_ge n d)

  pub m_list_odd_below : AllOddBelow d given → (n : ℕ) → AllOddBelow n (m_list d p given n)
  unfolding AllOddBelow
  m_list_odd_below g zero i h = absurd (not-suc-le-zero h)
  m_list_odd_below g (suc n) i h =
      ⊎_elim
      (λ l. rw (m_list_before n i l) (m_list_odd_below g n i l))
      (λ l. let e : i ≡ n = omega arith in rw (e, m_list_last n) (m_next_odd_below g n (m_list d p given n) (m_list_odd_below g n)))
      (lt_or_ge i n)

  -- the first i of them are m_1 to m_i
  m_list_take : (n i : ℕ) → i ≤ n → take i (m_list d p given n) ≡ m_list d p given i
  unfolding m_list
  m_list_take zero i h = let e : i ≡ 0 = omega arith in rw e refl
  m_list_take (suc n) i h =
      ⊎_elim
      (λ l. take-append-le i (m_list d p given n) (m_next d p given n (m_list d p given n) ∷ []) (omega (arith, m_list_length n)) ∙ m_list_take n i (omega arith))
      (λ l. let e : i ≡ suc n = omega arith in rw e (take_all (suc n) (m_list d p given (suc n)) (omega (arith, m_list_length (suc n)))))
      (lt_or_ge i (suc n))

  m_list_at : (n i : ℕ) → i < n → get_or (m_list d p given n) i 0 ≡ m_next d p given i (m_list d p given i)
  m_list_at n i h =
      sym (get_or-take (suc i) (m_list d p given n) i 0 (omega arith)) ∙ ap (λ (l : List ℕ). get_or l i 0) (m_list_take n (suc i) h) ∙ m_list_last i

  -- m_1 to m_d are the given ones
  pub m_list_given : (n i : ℕ) → i < d → i < n → get_or (m_list d p given n) i 0 ≡ get_or given i 0
  m_list_given n i h l = m_list_at n i l ∙ m_next_given i (m_list d p given i) h

-- ---- the direction numbers

pub scaled_length : (i : ℕ) (ms : List ℕ) → length (scaled i ms) ≡ length ms
unfolding scaled
scaled_length i [] = refl
scaled_length i (m ∷ ms) = ap suc (scaled_length (suc i) ms)

scaled_at_from : (i : ℕ) (ms : List ℕ) (k : ℕ) → get_or (scaled i ms) k 0 ≡ get_or ms k 0 * 2 ^ (31 - (i + k))
unfolding scaled
scaled_at_from i [] k = sym (zero-mul (2 ^ (31 - (i + k))))
scaled_at_from i (m ∷ ms) zero = ap (λ (x : ℕ). m * 2 ^ (31 - x)) (sym (add-zero i))
scaled_at_from i (m ∷ ms) (suc k) = scaled_at_from (suc i) ms k ∙ ap (λ (x : ℕ). get_or ms k 0 * 2 ^ (31 - x)) (omega arith)

pub scaled_at : (ms : List ℕ) (k : ℕ) → get_or (scaled 0 ms) k 0 ≡ get_or ms k 0 * 2 ^ (31 - k)
scaled_at ms k = scaled_at_from 0 ms k ∙ ap (λ (x : ℕ). get_or ms k 0 * 2 ^ (31 - x)) (zero-add k)

module _ (d p : ℕ) (given : List ℕ) where
  pub directions_length : length (directions d p given) ≡ 32
  unfolding directions
  directions_length = scaled_length 0 (m_list d p given 32) ∙ m_list_length d p given 32

  pub directions_lt : AllOddBelow d given → (j : ℕ) → get_or (directions d p given) j 0 < 2 ^ 32
  unfolding directions
  directions_lt g j =
      ⊎_elim
      (λ l.
      let e : suc j + (31 - j) ≡ 32 = omega arith in
      rw (scaled_at (m_list d p given 32) j) (rw e at (shifted_lt 32 (m_list d p given 32) j (31 - j) (m_list_odd_below d p given g 32) l)))
      (λ l. rw (get_or-eq_default (directions d p given) 0 {n = j} (omega (arith, directions_length))) (pow_pos 32))
      (lt_or_ge j 32)

-- the given ones from the d-th on don't matter
module _ (d p : ℕ) (a b : List ℕ) (same : (j : ℕ) → j < d → get_or a j 0 ≡ get_or b j 0) where
  m_next_same : (i : ℕ) (ms : List ℕ) → m_next d p a i ms ≡ m_next d p b i ms
  m_next_same i ms =
      ⊎_elim (λ h. m_next_given d p a i ms h ∙ same i h ∙ sym (m_next_given d p b i ms h))
      (λ h. m_next_rule d p a i ms h ∙ sym (m_next_rule d p b i ms h)) (lt_or_ge i d)

  m_list_same : (n : ℕ) → m_list d p a n ≡ m_list d p b n
  unfolding m_list
  m_list_same zero = refl
  m_list_same (suc i) =
      let ih : m_list d p a i ≡ m_list d p b i = m_list_same i in
      ap₂ (λ (l : List ℕ) (x : ℕ). l ++ (x ∷ [])) ih (ap (λ (l : List ℕ). m_next d p a i l) ih ∙ m_next_same i (m_list d p b i))

  pub directions_given : directions d p a ≡ directions d p b
  unfolding directions
  directions_given = ap (scaled 0) (m_list_same 32)

-- ---- one turn of the loop over the terms

module _ (d p : ℕ) (m : List ℕ) (i k x : ℕ) where
  -- from the turn's j = k + 1 to the definition's suc k
  terms_next : bit_xor (m_terms d p m i k) (m_term d p m i (k + 1)) ≡ m_terms d p m i (k + 1)
  unfolding m_terms
  terms_next = ap (λ (j : ℕ). bit_xor (m_terms d p m i k) (m_term d p m i j)) (add-one k) ∙ ap (m_terms d p m i) (sym (add-one k))

  pub terms_set : AllOddBelow i m → k + 1 ≤ i → i < 32 → x ≡ m_terms d p m i k → bit_and (p / 2 ^ (d - (k + 1))) 1 ≡ 1
      → bit_xor x (get_or m (i - (k + 1)) 0 * 2 ^ (k + 1) % 2 ^ 64) ≡ m_terms d p m i (k + 1)
  terms_set g hk hi e t =
      ap₂ bit_xor e (shifted_exact i m (i - (k + 1)) (k + 1) g (omega arith) (omega arith)
      ∙ times_set (p / 2 ^ (d - (k + 1))) (get_or m (i - (k + 1)) 0 * 2 ^ (k + 1)) t)
      ∙ terms_next

  pub terms_clear : x ≡ m_terms d p m i k → (bit_and (p / 2 ^ (d - (k + 1))) 1 ≡ 1 → ⊥) → x ≡ m_terms d p m i (k + 1)
  terms_clear e t =
      e ∙ sym (xor_zero_r (m_terms d p m i k))
      ∙ ap (bit_xor (m_terms d p m i k)) (times_clear (p / 2 ^ (d - (k + 1))) (get_or m (i - (k + 1)) 0 * 2 ^ (k + 1)) t)
      ∙ terms_next

pub m_rule_terms : (d p : ℕ) (m : List ℕ) (i : ℕ) → 1 ≤ d → m_terms d p m i d ≡ m_rule d p m i
unfolding m_rule
m_rule_terms zero p m i h = absurd (omega arith)
m_rule_terms (suc d) p m i h = refl

pub m_rule_none : (d p : ℕ) (m : List ℕ) (i : ℕ) → d ≡ 0 → 1 ≡ m_rule d p m i
unfolding m_rule
m_rule_none d p m i e = ap (λ (x : ℕ). m_rule x p m i) (sym e)

-- ---- one turn of the loop over the m's: m_(i+1) depends on m_1 to m_i alone

terms_take : (d p : ℕ) (ms : List ℕ) (i k : ℕ) → 1 ≤ d → d ≤ i → k ≤ i → m_terms d p ms i k ≡ m_terms d p (take i ms) i k
unfolding m_terms
terms_take d p ms i zero h hd hk = sym (get_or-take i ms (i - d) 0 (omega arith))
terms_take d p ms i (suc k) h hd hk =
    ap₂ (λ (x y : ℕ). bit_xor x (times (p / 2 ^ (d - suc k) % 2) (y * 2 ^ suc k)))
    (terms_take d p ms i k h hd (omega arith)) (sym (get_or-take i ms (i - suc k) 0 (omega arith)))

m_rule_take : (d p : ℕ) (ms : List ℕ) (i : ℕ) → d ≤ i → m_rule d p ms i ≡ m_rule d p (take i ms) i
unfolding m_rule
m_rule_take zero p ms i h = refl
m_rule_take (suc d) p ms i h = terms_take (suc d) p ms i (suc d) (omega arith) h h

module _ (d p : ℕ) (given : List ℕ) (i : ℕ) (m : List ℕ) (front : take i m ≡ m_list d p given i) where
  m_next_front : m_next d p given i m ≡ m_next d p given i (m_list d p given i)
  m_next_front =
      ⊎_elim
      (λ h. m_next_given d p given i m h ∙ sym (m_next_given d p given i (m_list d p given i) h))
      (λ h. m_next_rule d p given i m h ∙ m_rule_take d p m i h ∙ ap (λ (s : List ℕ). m_rule d p s i) front
      ∙ sym (m_next_rule d p given i (m_list d p given i) h))
      (lt_or_ge i d)

  pub m_list_turn : (x : ℕ) → i < length m → x ≡ m_next d p given i m → take (i + 1) (set m i x) ≡ m_list d p given (i + 1)
  unfolding m_list
  m_list_turn x h e =
      ap (λ (n : ℕ). take n (set m i x)) (add-one i)
      ∙ take-suc-set m i x h
      ∙ ap₂ (λ (s : List ℕ) (y : ℕ). s ++ (y ∷ [])) front (e ∙ m_next_front)
      ∙ ap (m_list d p given) (sym (add-one i))

  pub odd_below_front : AllOddBelow d given → AllOddBelow i m
  unfolding AllOddBelow
  odd_below_front g j h =
      subst (OddBelow j) (ap (λ (l : List ℕ). get_or l j 0) (sym front) ∙ get_or-take i m j 0 h) (m_list_odd_below d p given g i j h)

-- the later ones are by the recurrence over the same list; at degree 0, where it is 1, all are 1
pub m_list_rule : (d p : ℕ) (given : List ℕ) (n i : ℕ) → d ≤ i → i < n → get_or (m_list d p given n) i 0 ≡ m_rule d p (m_list d p given n) i
m_list_rule d p given n i h l =
    m_list_at d p given n i l ∙ sym (m_next_front d p given i (m_list d p given n) (m_list_take d p given n i (omega arith)))
    ∙ m_next_rule d p given i (m_list d p given n) h
