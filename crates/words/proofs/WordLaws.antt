-- The bytes in front that pass a test, and the words that begin, one byte after another. Assumes nothing.
use mathlib.Core.Path.{◌≡◌, refl}
use mathlib.Core.Bool.{Bool, true, false, not, cond, ◌&&◌}
use mathlib.Core.List.{List, ◌∷◌}
use Prim.Native.Nat.{ℕ, suc, ◌+◌, ◌<◌}
use native.Mathlib.Numerals.{add-one}
use lib.ListN.{length, drop, get_or}
use lib.Seq.{drop-cons, drop-length}
use Rattle.words.specs.Word.{is_blank, leading, words_in}

module _ (l : List ℕ) (i : ℕ) (h : i < length l) where
  pub here : drop i l ≡ get_or l i 0 ∷ drop (i + 1) l
  here = rw add-one (drop-cons l i 0 h)

  pub leading_more : (passes : ℕ → Bool) → passes (get_or l i 0) ≡ true → leading passes (drop i l) ≡ suc (leading passes (drop (i + 1) l))
  unfolding leading
  leading_more passes e = rw (here, e) refl

  pub leading_stop : (passes : ℕ → Bool) → passes (get_or l i 0) ≡ false → leading passes (drop i l) ≡ 0
  unfolding leading
  leading_stop passes e = rw (here, e) refl

  -- the byte begins a word, or it does not
  pub words_more : (outside blank begins : Bool) → blank ≡ is_blank (get_or l i 0) → (outside && not blank) ≡ begins
      → words_in outside (drop i l) ≡ cond begins 1 0 + words_in blank (drop (i + 1) l)
  unfolding words_in
  words_more outside blank begins e b = rw (here, ← e, b) refl

module _ (l : List ℕ) (i : ℕ) (e : i ≡ length l) where
  pub leading_end : (passes : ℕ → Bool) → leading passes (drop i l) ≡ 0
  unfolding leading
  leading_end passes = rw (e, drop-length l) refl

  pub words_end : (outside : Bool) → words_in outside (drop i l) ≡ 0
  unfolding words_in
  words_end outside = rw (e, drop-length l) refl
