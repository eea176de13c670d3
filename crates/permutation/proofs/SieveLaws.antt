-- The sieve of d + 1 binary digits is two of d digits: the even numbers below b, twice those below (b + 1) / 2, and then the odd, twice those
-- below b / 2 and one more. Assumes nothing.
use mathlib.Core.Path.{◌≡◌, refl, ap, ap₂, ◌∙◌}
use mathlib.Core.Bool.{Bool, true, false, cond}
use mathlib.Core.List.{List, [], ◌∷◌, ◌++◌, map}
use mathlib.Core.Logic.{⊎_elim}
use Prim.Native.Nat.{ℕ, zero, suc, ◌+◌, ◌-◌, ◌*◌, ◌/◌, ◌%◌, ◌^◌, ◌<◌, ◌≤◌}
use native.Mathlib.Nat.{pow-zero, pow-suc, div-eq_of_lt, add-div_left}
use native.Mathlib.Numerals.{suc-eq-add-one}
use native.Mathlib.Omega.{arith}
use lib.Dec.{ltb}
use borrow.Author.Tests.{lt-ltb, le-ltb}
use lib.ListN.{length, get_or, length-append, length-map, get_or-append, get_or-map}
use lib.Seq.{get_or-append-add}
use Rattle.numbers.specs.Digits.{digit, numerator_to, sum}
use Rattle.numbers.specs.Listed.{listed}
use Rattle.numbers.proofs.Cases.{lt_or_ge, lt_iff}
use Rattle.numbers.proofs.DigitLaws.{pow_pos, pow_one_more}
use Rattle.numbers.proofs.ListedLaws.{listed_same, listed_parts, listed_map}
use Rattle.numbers.proofs.NumeratorLaws.{numerator_last, numerator_low}
use Rattle.permutation.specs.Kocis.{corput, less_from, sieve}

-- ---- lists less their numbers at or above b

pub less_append : (b : ℕ) (l m : List ℕ) → less_from b (l ++ m) ≡ less_from b l ++ less_from b m
unfolding less_from
less_append b [] m = refl
less_append b (x ∷ l) m =
    ap (λ (r : List ℕ). cond (ltb x b) (x ∷ r) r) (less_append b l m) ∙ front (ltb x b)
  where
    front : (t : Bool) → cond t (x ∷ less_from b l ++ less_from b m) (less_from b l ++ less_from b m) ≡ cond t (x ∷ less_from b l) (less_from b l) ++ less_from b m
    front true = refl
    front false = refl

-- all of them are below
pub less_all : (b : ℕ) (l : List ℕ) → ((i : ℕ) → i < length l → get_or l i 0 < b) → less_from b l ≡ l
unfolding less_from
less_all b [] h = refl
less_all b (x ∷ l) h = rw (lt-ltb x b (h 0 (omega arith))) (ap (λ (r : List ℕ). x ∷ r) (less_all b l (λ i k. h (suc i) (omega arith))))

-- once more, from a smaller number on
less_less : (b c : ℕ) → c ≤ b → (l : List ℕ) → less_from c (less_from b l) ≡ less_from c l
unfolding less_from
less_less b c k [] = refl
less_less b c k (x ∷ l) =
    ⊎_elim (λ h. rw (lt-ltb x b h) (ap (λ (r : List ℕ). cond (ltb x c) (x ∷ r) r) (less_less b c k l)))
    (λ h. rw (le-ltb x b h, le-ltb x c (omega arith)) (less_less b c k l)) (lt_or_ge x b)

-- where g x is below b just if x is below c, g carries the one to the other
less_map : (g : ℕ → ℕ) (b c : ℕ) → ((x : ℕ) → ltb (g x) b ≡ ltb x c) → (l : List ℕ) → less_from b (map g l) ≡ map g (less_from c l)
unfolding less_from
less_map g b c h [] = refl
less_map g b c h (x ∷ l) =
    ap₂ (λ (t : Bool) (r : List ℕ). cond t (g x ∷ r) r) (h x) (less_map g b c h l) ∙ front (ltb x c)
  where
    front : (t : Bool) → cond t (g x ∷ map g (less_from c l)) (map g (less_from c l)) ≡ map g (cond t (x ∷ less_from c l) (less_from c l))
    front true = refl
    front false = refl

-- ---- the van der Corput numbers of d + 1 digits

pub double : ℕ → ℕ
double x = 2 * x

pub double_more : ℕ → ℕ
double_more x = 2 * x + 1

pub corput_last : (d i : ℕ) → corput (d + 1) i ≡ 2 * corput d i + i / 2 ^ d % 2
unfolding corput digit
corput_last d i = omega (arith, numerator_last (λ a. a) 2 d i)

pub corput_lower : (d i : ℕ) → i < 2 ^ d → corput (d + 1) i ≡ 2 * corput d i
corput_lower d i l = omega (arith, corput_last d i, div-eq_of_lt l)

pub corput_upper : (d i : ℕ) → i < 2 ^ d → corput (d + 1) (2 ^ d + i) ≡ 2 * corput d i + 1
corput_upper d i l =
    let q : (2 ^ d + i) / 2 ^ d ≡ i / 2 ^ d + 1 = add-div_left i (pow_pos 2 d (omega arith)) in
    omega (arith, corput_last d (2 ^ d + i), q, div-eq_of_lt l, same)
  where
    same : corput d (2 ^ d + i) ≡ corput d i
    same = unfold corput in
        ap (numerator_to (λ a. a) 2 d) {x = 2 ^ d + i} {y = 1 * 2 ^ d + i} (omega arith) ∙ numerator_low (λ a. a) 2 (omega arith) d 1 i

-- ---- the sieve

listed_halves : (d : ℕ) → listed (corput (d + 1)) (2 ^ (d + 1)) ≡ map double (listed (corput d) (2 ^ d)) ++ map double_more (listed (corput d) (2 ^ d))
unfolding double double_more
listed_halves d =
    ap (listed (corput (d + 1))) {x = 2 ^ (d + 1)} {y = 2 ^ d + 2 ^ d} (omega (arith, pow_one_more 2 d))
    ∙ listed_parts (corput (d + 1)) (2 ^ d) (2 ^ d)
    ∙ ap₂ (λ (l m : List ℕ). l ++ m)
    (listed_same (corput (d + 1)) (λ i. double (corput d i)) (2 ^ d) (corput_lower d) ∙ listed_map double (corput d) (2 ^ d))
    (listed_same (λ i. corput (d + 1) (2 ^ d + i)) (λ i. double_more (corput d i)) (2 ^ d) (corput_upper d)
    ∙ listed_map double_more (corput d) (2 ^ d))

pub sieve_halves : (d b : ℕ) → sieve (d + 1) b ≡ map double (sieve d ((b + 1) / 2)) ++ map double_more (sieve d (b / 2))
unfolding sieve double double_more
sieve_halves d b =
    let l = listed (corput d) (2 ^ d) in
    ap (less_from b) (listed_halves d) ∙ less_append b (map double l) (map double_more l)
    ∙ ap₂ (λ (l m : List ℕ). l ++ m)
    (less_map double b ((b + 1) / 2) (λ x. lt_iff (2 * x) b x ((b + 1) / 2) (λ h. omega arith) (λ h. omega arith)) l)
    (less_map double_more b (b / 2) (λ x. lt_iff (2 * x + 1) b x (b / 2) (λ h. omega arith) (λ h. omega arith)) l)

pub sieve_less : (d b c : ℕ) → c ≤ b → less_from c (sieve d b) ≡ sieve d c
unfolding sieve
sieve_less d b c h = less_less b c h (listed (corput d) (2 ^ d))

-- below 0 there is none
less_none : (l : List ℕ) → less_from 0 l ≡ []
unfolding less_from
less_none [] = refl
less_none (x ∷ l) = rw (le-ltb x 0 (omega arith)) (less_none l)

pub sieve_none : (d : ℕ) → sieve d 0 ≡ []
unfolding sieve
sieve_none d = less_none (listed (corput d) (2 ^ d))

-- and with no digits there is 0
pub sieve_one : sieve 0 1 ≡ 0 ∷ []
unfolding sieve listed less_from corput numerator_to sum
sieve_one = refl

-- b numbers are left, where 2 ^ d is at least b
pub sieve_length : (d b : ℕ) → b ≤ 2 ^ d → length (sieve d b) ≡ b
sieve_length zero zero h = ap length (sieve_none 0)
sieve_length zero (suc zero) h = ap length sieve_one
sieve_length zero (suc (suc b)) h = absurd (omega (arith, pow-zero 2))
sieve_length (suc d) b h =
    let up : b ≤ 2 ^ d * 2 = omega (arith, pow-suc 2 d) in
    ap (λ (m : ℕ). length (sieve m b)) (suc-eq-add-one d) ∙ ap length (sieve_halves d b)
    ∙ length-append (map double (sieve d ((b + 1) / 2))) (map double_more (sieve d (b / 2)))
    ∙ omega (
      arith,
      length-map (sieve d ((b + 1) / 2)) double,
      length-map (sieve d (b / 2)) double_more,
      sieve_length d ((b + 1) / 2) (omega arith),
      sieve_length d (b / 2) (omega arith),
    )

-- ---- its entries

-- entry k
abbrev pub entry : ℕ → ℕ → ℕ → ℕ
entry d b k = get_or (sieve d b) k 0

module _ (d b k : ℕ) (reach : b ≤ 2 ^ (d + 1)) where
  half : b ≤ 2 * 2 ^ d
  half = omega (arith, pow_one_more 2 d)

  lower_length : length (map double (sieve d ((b + 1) / 2))) ≡ (b + 1) / 2
  lower_length = length-map (sieve d ((b + 1) / 2)) double ∙ sieve_length d ((b + 1) / 2) (omega (arith, half))

  upper_length : length (map double_more (sieve d (b / 2))) ≡ b / 2
  upper_length = length-map (sieve d (b / 2)) double_more ∙ sieve_length d (b / 2) (omega (arith, half))

  pub sieve_lower : k < (b + 1) / 2 → entry (d + 1) b k ≡ 2 * entry d ((b + 1) / 2) k
  unfolding double
  sieve_lower l =
      ap (λ (s : List ℕ). get_or s k 0) (sieve_halves d b)
      ∙ get_or-append (map double (sieve d ((b + 1) / 2))) (map double_more (sieve d (b / 2))) 0 k (omega (arith, lower_length))
      ∙ get_or-map double (sieve d ((b + 1) / 2)) k 0

  pub sieve_upper : (b + 1) / 2 ≤ k → k < b → entry (d + 1) b k ≡ 2 * entry d (b / 2) (k - (b + 1) / 2) + 1
  unfolding double_more
  sieve_upper l m =
      let evens = map double (sieve d ((b + 1) / 2)) in
      let odds = map double_more (sieve d (b / 2)) in
      let j = k - (b + 1) / 2 in
      ap (λ (s : List ℕ). get_or s k 0) (sieve_halves d b)
      ∙ ap (λ (i : ℕ). get_or (evens ++ odds) i 0) {x = k} {y = length evens + j} (omega (arith, lower_length))
      ∙ get_or-append-add evens odds j 0
      ∙ inside odds j (omega (arith, upper_length))
      ∙ get_or-map double_more (sieve d (b / 2)) j 0
    where
      -- inside a list it is all one what stands past its end
      inside : (s : List ℕ) (i : ℕ) → i < length s → get_or s i 0 ≡ get_or s i 1
      inside [] i h = absurd (omega arith)
      inside (x ∷ s) zero h = refl
      inside (x ∷ s) (suc i) h = inside s i (omega arith)
