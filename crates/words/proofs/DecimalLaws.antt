-- A word's digits and their value, one byte after another. Assumes nothing.
use mathlib.Core.Path.{◌≡◌, refl, sym, ◌∙◌}
use mathlib.Core.Bool.{true, false, true≢false}
use mathlib.Core.List.{List, [], ◌∷◌}
use mathlib.Core.Logic.{⊎_elim}
use Prim.Native.Nat.{ℕ, ◌+◌, ◌*◌, ◌-◌, ◌^◌, ◌<◌, ◌≤◌}
use native.Mathlib.Omega.{arith}
use borrow.Author.Tests.{lt-ltb, le-ltb}
use lib.ListN.{length, drop, get_or}
use lib.Seq.{drop-length}
use Rattle.numbers.proofs.Cases.{lt_or_ge}
use Rattle.std.proofs.Common.{Ok, Err}
use Rattle.words.specs.declared.NumberError.TheVariants.{NotDecimal, TooLarge}
use Rattle.words.specs.Decimal.{all_digits, value_from, fitting, number_of}
use Rattle.words.proofs.WordLaws.{here}

-- ---- the byte at hand

module _ (b : ℕ) (bs : List ℕ) where
  low : b < 48 → all_digits (b ∷ bs) ≡ false
  unfolding all_digits
  low h = rw (lt-ltb b 48 h)

  high : 57 < b → all_digits (b ∷ bs) ≡ false
  unfolding all_digits
  high h = rw (le-ltb b 48 (omega arith), lt-ltb 57 b h)

  digit : 48 ≤ b → b ≤ 57 → all_digits (b ∷ bs) ≡ all_digits bs
  unfolding all_digits
  digit l h = rw (le-ltb b 48 l, le-ltb 57 b h)

module _ (l : List ℕ) (i : ℕ) (h : i < length l) where
  pub byte_low : get_or l i 0 < 48 → all_digits (drop i l) ≡ false
  byte_low d = rw (here l i h) (low (get_or l i 0) (drop (i + 1) l) d)

  pub byte_high : 57 < get_or l i 0 → all_digits (drop i l) ≡ false
  byte_high d = rw (here l i h) (high (get_or l i 0) (drop (i + 1) l) d)

  pub byte_digit : 48 ≤ get_or l i 0 → get_or l i 0 ≤ 57 → all_digits (drop i l) ≡ all_digits (drop (i + 1) l)
  byte_digit d e = rw (here l i h) (digit (get_or l i 0) (drop (i + 1) l) d e)

  pub digit_here : all_digits (drop i l) ≡ true → (48 ≤ get_or l i 0) × (get_or l i 0 ≤ 57) × (all_digits (drop (i + 1) l) ≡ true)
  digit_here e =
      ⊎_elim
      (λ d. absurd (true≢false (sym e ∙ byte_low d)))
      (λ d. ⊎_elim (λ f. absurd (true≢false (sym e ∙ byte_high f))) (λ f. (d, f, sym (byte_digit d f) ∙ e)) (lt_or_ge 57 (get_or l i 0)))
      (lt_or_ge (get_or l i 0) 48)

  pub value_next : (n : ℕ) → value_from n (drop i l) ≡ value_from (n * 10 + (get_or l i 0 - 48)) (drop (i + 1) l)
  unfolding value_from
  value_next n = rw (here l i h) refl

pub digits_end : (l : List ℕ) (i : ℕ) → i ≡ length l → all_digits (drop i l) ≡ true
unfolding all_digits
digits_end l i e = rw (e, drop-length l) refl

pub value_end : (n : ℕ) (l : List ℕ) (i : ℕ) → i ≡ length l → value_from n (drop i l) ≡ n
unfolding value_from
value_end n l i e = rw (e, drop-length l) refl

pub value_low : (n : ℕ) (l : List ℕ) → n ≤ value_from n l
unfolding value_from
value_low n [] = omega arith
value_low n (b ∷ bs) = omega (arith, value_low (n * 10 + (b - 48)) bs)

-- ---- the answer

pub number_none : (l : List ℕ) → length l ≡ 0 → number_of l ≡ Err NotDecimal
unfolding number_of
number_none [] e = refl
number_none (b ∷ bs) e = absurd (omega arith)

pub number_other : (l : List ℕ) → all_digits l ≡ false → number_of l ≡ Err NotDecimal
unfolding number_of
number_other [] e = refl
number_other (b ∷ bs) e = rw e refl

module _ (l : List ℕ) (some : 0 < length l) (e : all_digits l ≡ true) where
  is : number_of l ≡ fitting (value_from 0 l)
  unfolding number_of
  is = go l some e
    where
      go : (l : List ℕ) → 0 < length l → all_digits l ≡ true → number_of l ≡ fitting (value_from 0 l)
      go [] h d = absurd (omega arith)
      go (b ∷ bs) h d = rw d refl

  pub number_value : (n : ℕ) → n < 2 ^ 64 → value_from 0 l ≡ n → Ok n ≡ number_of l
  unfolding fitting
  number_value n h v = sym (is ∙ rw (v, lt-ltb n (2 ^ 64) h) refl)

  pub number_large : 2 ^ 64 ≤ value_from 0 l → Err TooLarge ≡ number_of l
  unfolding fitting
  number_large h = sym (is ∙ rw (le-ltb (value_from 0 l) (2 ^ 64) h) refl)
