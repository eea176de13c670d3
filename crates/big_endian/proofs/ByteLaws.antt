-- Words as bytes: those that the library gives for one, and one word more after the others; the numbers of a window. Assumes nothing.
use mathlib.Core.Path.{◌≡◌, refl, sym, ap, ap₂, ◌∙◌}
use mathlib.Core.List.{List, [], ◌∷◌, ◌++◌, append_assoc, append-nil}
use Prim.Native.Nat.{ℕ, zero, suc, ◌+◌, ◌*◌, ◌/◌, ◌%◌, ◌^◌, ◌<◌}
use native.Mathlib.Nat.{pow-suc}
use native.Mathlib.Numerals.{add-one}
use native.Mathlib.Omega.{arith}
use lib.ListN.{length, take, drop, get_or, length-append}
use lib.Seq.{take-suc, length-take-le, drop-nil, drop-append-add}
use lib.Pow.{pow-add}
use Rattle.std.specs.Int.{bytes_high_first}
use Rattle.numbers.specs.Listed.{padded}
use Rattle.numbers.proofs.ListedLaws.{listed_length, padded_take}
use Rattle.bits.specs.Stream.{to_bits, bits_of, overwrite}
use Rattle.bits.proofs.StreamLaws.{to_bits_low, to_bits_split}
use Rattle.bits.proofs.OverwriteLaws.{over_none, over_append}
use Rattle.big_endian.specs.Bytes.{bytes_of, word_bytes, quad_at, window_in}

pub length_bytes : (k n : ℕ) → length (bytes_of k n) ≡ k
unfolding bytes_of
length_bytes zero n = refl
length_bytes (suc k) n = ap suc (length_bytes k n)

pub length_words : (words : List ℕ) → length (word_bytes words) ≡ 8 * length words
unfolding word_bytes
length_words [] = refl
length_words (x ∷ words) = length-append (bytes_of 8 x) (word_bytes words) ∙ omega (arith, length_bytes 8 x, length_words words)

-- ---- the bytes of a word

weight : (k : ℕ) → 2 ^ (8 * k) ≡ 256 ^ k
weight zero = refl
weight (suc k) = let e : 8 * suc k ≡ 8 * k + 8 = omega arith in rw (e, pow-add 2 (8 * k) 8, pow-suc 256 k, weight k) refl

-- the bytes that the library's own call gives
pub bytes_by : (k n : ℕ) → bytes_high_first k n ≡ bytes_of k n
unfolding bytes_of
bytes_by zero n = refl
bytes_by (suc zero) n = let e : n / 1 ≡ n = omega arith in rw e refl
bytes_by (suc (suc k)) n = ap (λ (l : List ℕ). (n / 256 ^ suc k % 256) ∷ l) (bytes_by (suc k) n)

-- ---- words one after another

pub words_append : (a b : List ℕ) → word_bytes (a ++ b) ≡ word_bytes a ++ word_bytes b
unfolding word_bytes
words_append [] b = refl
words_append (x ∷ a) b = rw (words_append a b, append_assoc) refl

pub words_drop : (k : ℕ) (words : List ℕ) → drop (8 * k) (word_bytes words) ≡ word_bytes (drop k words)
unfolding word_bytes
words_drop zero words = refl
words_drop (suc k) [] = drop-nil (8 * suc k)
words_drop (suc k) (x ∷ words) =
    let e : 8 * suc k ≡ length (bytes_of 8 x) + 8 * k = omega (arith, length_bytes 8 x) in
    rw (e, drop-append-add) (words_drop k words)

words_snoc : (words : List ℕ) (x : ℕ) → word_bytes (words ++ x ∷ []) ≡ word_bytes words ++ bytes_of 8 x
unfolding word_bytes
words_snoc words x = words_append words (x ∷ []) ∙ ap (λ (l : List ℕ). word_bytes words ++ l) (append-nil (bytes_of 8 x))

pub words_none : (old : List ℕ) → old ≡ overwrite old 0 (word_bytes [])
unfolding word_bytes
words_none old = over_none old 0

pub words_next : (old words : List ℕ) (i at : ℕ) → i < length words → at ≡ 8 * i
    → overwrite (overwrite old 0 (word_bytes (take i words))) at (bytes_of 8 (get_or words i 0)) ≡ overwrite old 0 (word_bytes (take (i + 1) words))
words_next old words i at h e =
    let size : at ≡ 0 + length (word_bytes (take i words)) = omega (arith, length_words (take i words), length-take-le i words (omega arith)) in
    over_append old 0 (word_bytes (take i words)) at (omega arith) size (bytes_of 8 (get_or words i 0))
    ∙ ap (overwrite old 0) (sym (words_snoc (take i words) (get_or words i 0)) ∙ ap word_bytes (rw (add-one, take-suc words i 0) refl))

-- ---- the bytes spell the number

pub bytes_spell : (k n : ℕ) → bits_of (bytes_of k n) ≡ to_bits (8 * k) n
unfolding bytes_of bits_of
bytes_spell zero n = unfold to_bits in refl
bytes_spell (suc k) n =
    let e : 8 * suc k ≡ 8 + 8 * k = omega arith in
    ap₂ ◌++◌ (sym (to_bits_low 8 (n / 256 ^ k))) (bytes_spell k n) ∙ rw (← weight k, e) (sym (to_bits_split 8 (8 * k) n))

-- ---- the numbers of a window

module _ (bytes : List ℕ) (s : ℕ) where
  pub window_length : length (window_in bytes s) ≡ 2 * s
  unfolding window_in
  window_length = listed_length (quad_at bytes) (2 * s)

  -- what the code passes on of the twelve numbers
  pub window_front : take (2 * s) (padded 12 (window_in bytes s)) ≡ window_in bytes s
  window_front = padded_take 12 (window_in bytes s) (2 * s) window_length
