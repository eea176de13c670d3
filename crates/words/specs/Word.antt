-- Words in a line of text: longest runs of bytes that are no blanks. Definitions only.
use Rattle.std.specs.Prelude.{◌≡◌, Bool, true, false, not, cond, ◌&&◌, ◌||◌, List, [], ◌∷◌, ℕ, suc, ◌+◌, ◌≤◌, eqb, length, drop}
use Rattle.std.specs.Bool.{beq}
use Rattle.words.specs.declared.Word.{Word}

-- a space or a tab
unfoldable pub is_blank : ℕ → Bool
is_blank b = eqb b 32 || eqb b 9

-- how many bytes in front pass a test, up to the first that does not
unfoldable pub leading : (ℕ → Bool) → List ℕ → ℕ
leading passes [] = 0
leading passes (b ∷ bs) = cond (passes b) (suc (leading passes bs)) 0

-- the byte is a blank, or it is not, as asked
unfoldable pub blank_is : Bool → ℕ → Bool
blank_is blank b = beq (is_blank b) blank

-- where the blanks at a place end, or the other bytes there, as asked
abbrev pub span_end : List ℕ → ℕ → Bool → ℕ
span_end line from blank = from + leading (blank_is blank) (drop from line)

-- the first word at or after a place; it starts and ends at the line's end where there is none
abbrev pub first_word : List ℕ → ℕ → Word
first_word line from = up_to (span_end line from true)
  where
    up_to : ℕ → Word
    up_to start = record { start = start; end = span_end line start false }

-- w is that word, and it lies in the line
pub record FirstWord (line : List ℕ) (from : ℕ) (w : Word) : Type 0 where
  pub is : w ≡ first_word line from
  pub low : from ≤ w.start
  pub forward : w.start ≤ w.end
  pub high : w.end ≤ length line

-- how many words begin: at each byte that is no blank after one that is, or after the place itself if `outside`
unfoldable pub words_in : Bool → List ℕ → ℕ
words_in outside [] = 0
words_in outside (b ∷ bs) = cond (outside && not (is_blank b)) 1 0 + words_in (is_blank b) bs
