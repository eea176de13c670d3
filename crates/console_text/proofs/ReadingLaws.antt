-- The numbers of a line, word by word. Assumes nothing.
use Rattle.std.proofs.Common.{◌≡◌, ℕ, suc, ◌+◌, ◌-◌, ◌<◌, ◌≤◌, true, Result, Ok, Err, List, ◌∷◌, ◌++◌, length, take, set, sym, refl, ap, ◌∙◌, subst, append-nil, add-one, arith, length-set, take_all, take-suc-set, eq-eqb, ne_eqb}
use lib.Seq.{append_snoc}
use Rattle.words.specs.declared.Word.{Word}
use Rattle.words.specs.declared.NumberError.{NumberError}
use Rattle.console_text.specs.declared.reading.NumbersError.{NumbersError}
use Rattle.console_text.specs.declared.reading.NumbersError.TheVariants.{Words, NotNumber}
use Rattle.words.specs.Word.{first_word, words_in}
use Rattle.console_text.specs.Reading.{number_at, after, unless_none, read_from, value_of, values_from, numbers_of}

-- ---- how many words

module _ (line : List ℕ) (n : ℕ) where
  pub numbers_same : words_in true line ≡ n → numbers_of line n ≡ read_from line 0 0 n
  unfolding numbers_of
  numbers_same e = rw (eq-eqb (words_in true line) n e) refl

  pub numbers_other : (k : ℕ) → k ≡ words_in true line → (k ≡ n → ⊥) → Err (Words k) ≡ numbers_of line n
  unfolding numbers_of
  numbers_other k e d = rw (ne_eqb (words_in true line) n (λ f. d (e ∙ f)), e) refl

-- a reading that fails is not one that succeeds
pub unread : (e : NumbersError) → ◌≡◌ {A = Result (Unit {0}) NumbersError} (Err e) (Ok tt) → ⊥
unread e f = let z : ◌≡◌ {A = ℕ} 0 1 = cc in omega arith

-- ---- word by word

-- the first i of n words are read, up to a place, and their values stored
pub record Reading (line : List ℕ) (n at i : ℕ) (out : List ℕ) : Type 0 where
  pub size : length out ≡ n
  pub place : at ≤ length line
  pub most : i ≤ n
  pub rest : read_from line 0 0 n ≡ read_from line at i (n - i)
  pub values : values_from line 0 n ≡ take i out ++ values_from line at (n - i)

module _ (line : List ℕ) (n : ℕ) where
  pub reading_none : (out : List ℕ) → length out ≡ n → Reading line n 0 0 out
  reading_none out e =
      let all : n ≡ n - 0 = omega arith in
      record { size = e; place = omega arith; most = omega arith; rest = ap (read_from line 0 0) all; values = ap (values_from line 0) all }

  module _ {at i : ℕ} {out : List ℕ} (c : Reading line n at i out) (h : i < n) where
    left : n - i ≡ suc (n - (i + 1))
    left = omega arith

    read_on : read_from line 0 0 n ≡ unless_none (number_at line at) i (read_from line (after line at) (i + 1) (n - (i + 1)))
    unfolding read_from
    read_on = c.rest ∙ ap (read_from line at i) left

    values_on : values_from line 0 n ≡ take i out ++ (value_of (number_at line at) ∷ values_from line (after line at) (n - (i + 1)))
    unfolding values_from
    values_on = c.values ∙ ap (λ (k : ℕ). take i out ++ values_from line at k) left

    -- a number
    reading_after : (v : ℕ) → number_at line at ≡ Ok v → after line at ≤ length line → Reading line n (after line at) (i + 1) (set out i v)
    unfolding unless_none value_of
    reading_after v e p =
        record {
          size = length-set out i v ∙ c.size;
          place = p;
          most = omega arith;
          rest = read_on ∙ ap (λ (x : Result ℕ NumberError). unless_none x i (read_from line (after line at) (i + 1) (n - (i + 1)))) e;
          values = values_on ∙ ap (λ (x : Result ℕ NumberError). take i out ++ (value_of x ∷ values_from line (after line at) (n - (i + 1)))) e ∙ stored v;
        }
      where
        stored : (v : ℕ) → take i out ++ (v ∷ values_from line (after line at) (n - (i + 1))) ≡ take (i + 1) (set out i v) ++ values_from line (after line at) (n - (i + 1))
        stored v =
            sym (append_snoc (take i out) v (values_from line (after line at) (n - (i + 1))))
            ∙ ap (λ (x : List ℕ). x ++ values_from line (after line at) (n - (i + 1))) (sym (take-suc-set out i v (omega (arith, c.size))) ∙ ap (λ (k : ℕ). take k (set out i v)) (sym (add-one i)))

    pub reading_next : (v : ℕ) (w : Word) → w ≡ first_word line at → number_at line at ≡ Ok v → w.end ≤ length line
        → Reading line n w.end (i + 1) (set out i v)
    reading_next v w f e p =
        subst (λ (x : Word). Reading line n x.end (i + 1) (set out i v)) (sym f)
        (reading_after v e (subst (λ (x : Word). x.end ≤ length line) f p))

    -- no number
    pub reading_none_here : (d : NumberError) → number_at line at ≡ Err d → read_from line 0 0 n ≡ Err (NotNumber i d)
    unfolding unless_none
    reading_none_here d e = read_on ∙ ap (λ (x : Result ℕ NumberError). unless_none x i (read_from line (after line at) (i + 1) (n - (i + 1)))) e

  -- all words are read
  module _ {at i : ℕ} {out : List ℕ} (c : Reading line n at i out) (h : n ≤ i) where
    none : n - i ≡ 0
    none = omega arith

    pub reading_all : read_from line 0 0 n ≡ Ok tt
    unfolding read_from
    reading_all = c.rest ∙ ap (read_from line at i) none

    pub reading_values : out ≡ values_from line 0 n
    unfolding values_from
    reading_values = sym (c.values ∙ ap (λ (k : ℕ). take i out ++ values_from line at k) none ∙ append-nil (take i out) ∙ take_all i out (omega (arith, c.size)))
