-- Every byte string is the bytes of some words and fewer than 8 bytes more: 8 bytes are those of the number that their bits spell. Assumes nothing.
use mathlib.Core.Path.{◌≡◌, refl, sym, ap, ap₂, ◌∙◌}
use mathlib.Core.Logic.{⊎_elim}
use mathlib.Core.List.{List, [], ◌∷◌, ◌++◌, append_assoc}
use Prim.Native.Nat.{ℕ, zero, suc, ◌+◌, ◌*◌, ◌/◌, ◌<◌, ◌≤◌}
use native.Mathlib.Omega.{arith}
use lib.ListN.{length, take, drop, length-drop, take-append-drop}
use lib.Seq.{length-take-le}
use Rattle.numbers.proofs.Cases.{lt_or_ge}
use Rattle.bits.specs.Stream.{AllBelow, to_bits, of_bits, bits_of}
use Rattle.bits.proofs.StreamLaws.{length_bits, below_take, below_drop, below_bits, to_bits_of_bits}
use Rattle.bits.proofs.PackLaws.{bits_inj}
use Rattle.big_endian.specs.Bytes.{bytes_of, word_bytes}
use Rattle.big_endian.proofs.ByteLaws.{bytes_spell}

bytes_below : (k n : ℕ) → AllBelow 256 (bytes_of k n)
unfolding bytes_of AllBelow
bytes_below zero n = tt
bytes_below (suc k) n = (omega arith, bytes_below k n)

-- 8 bytes are those of a number
word_of : (l : List ℕ) → AllBelow 256 l → length l ≡ 8 → bytes_of 8 (of_bits (bits_of l)) ≡ l
word_of l below e =
    let long : 64 ≡ length (bits_of l) = omega (arith, length_bits l) in
    bits_inj (bytes_of 8 (of_bits (bits_of l))) l (bytes_below 8 (of_bits (bits_of l))) below
    (bytes_spell 8 (of_bits (bits_of l)) ∙ ap (λ (w : ℕ). to_bits w (of_bits (bits_of l))) long ∙ to_bits_of_bits (bits_of l) (below_bits l))

pub record Words (out : List ℕ) : Type 0 where
  pub words : List ℕ
  pub rest : List ℕ
  pub short : length rest < 8
  pub is : out ≡ word_bytes words ++ rest

none : (out : List ℕ) → length out < 8 → Words out
unfolding word_bytes
none out h = record { words = []; rest = out; short = h; is = refl }

more : (out : List ℕ) → AllBelow 256 out → 8 ≤ length out → Words (drop 8 out) → Words out
unfolding word_bytes
more out below h w =
    let l = take 8 out in
    let word = word_of l (below_take 256 8 out below) (length-take-le 8 out h) in
    record {
      words = of_bits (bits_of l) ∷ w.words;
      rest = w.rest;
      short = w.short;
      is = sym (take-append-drop 8 out) ∙ ap₂ ◌++◌ (sym word) w.is ∙ sym (append_assoc (bytes_of 8 (of_bits (bits_of l))) (word_bytes w.words) w.rest);
    }

words_in_lem : (k : ℕ) (out : List ℕ) → AllBelow 256 out → length out < 8 * k → Words out
words_in_lem zero out below h = absurd (omega arith)
words_in_lem (suc k) out below h =
    ⊎_elim (λ l. none out l)
    (λ l. more out below l (words_in_lem k (drop 8 out) (below_drop 256 8 out below) (omega (arith, length-drop 8 out))))
    (lt_or_ge (length out) 8)

pub words_of : (out : List ℕ) → AllBelow 256 out → Words out
words_of out below = words_in_lem (length out / 8 + 1) out below (omega arith)
