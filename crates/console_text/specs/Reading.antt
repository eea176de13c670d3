-- The numbers that the words of a line spell. Definitions only.
use Rattle.std.specs.Prelude.{◌≡◌, ℕ, zero, suc, ◌+◌, ◌-◌, true, cond, Result, Ok, Err, List, [], ◌∷◌, length, take, drop, ◌==◌}
use Rattle.words.specs.declared.Word.{Word}
use Rattle.words.specs.declared.NumberError.{NumberError}
use Rattle.words.specs.Word.{first_word, words_in}
use Rattle.words.specs.Decimal.{number_of}
use Rattle.console_text.specs.declared.reading.NumbersError.{NumbersError}
use Rattle.console_text.specs.declared.reading.NumbersError.TheVariants.{Words, NotNumber}

-- the number that a word of a line spells
unfoldable pub word_number : List ℕ → Word → Result ℕ NumberError
word_number line w = number_of (take (w.end - w.start) (drop w.start line))

-- that of the first word at or after a place, and where that word ends
abbrev pub number_at : List ℕ → ℕ → Result ℕ NumberError
number_at line at = word_number line (first_word line at)

abbrev pub after : List ℕ → ℕ → ℕ
after line at = (first_word line at).end

-- a word that spells no number, or one that does not fit, ends the reading at its place i
unfoldable pub unless_none : Result ℕ NumberError → ℕ → Result (Unit {0}) NumbersError → Result (Unit {0}) NumbersError
unless_none (Ok v) i rest = rest
unless_none (Err e) i rest = Err (NotNumber i e)

-- the reading of k words from a place on, the first of which is word i
unfoldable pub read_from : List ℕ → ℕ → ℕ → ℕ → Result (Unit {0}) NumbersError
read_from line at i zero = Ok tt
read_from line at i (suc k) = unless_none (number_at line at) i (read_from line (after line at) (i + 1) k)

unfoldable pub value_of : Result ℕ NumberError → ℕ
value_of (Ok v) = v
value_of (Err e) = 0

-- the values of these words
unfoldable pub values_from : List ℕ → ℕ → ℕ → List ℕ
values_from line at zero = []
values_from line at (suc k) = value_of (number_at line at) ∷ values_from line (after line at) k

-- the reading of a line that should have n words
unfoldable pub numbers_of : List ℕ → ℕ → Result (Unit {0}) NumbersError
numbers_of line n = cond (words_in true line == n) (read_from line 0 0 n) (Err (Words (words_in true line)))

-- r is that of as many words as the buffer has, and where it succeeds the buffer has their values
pub record NumbersRead (line old : List ℕ) (r : Result (Unit {0}) NumbersError) (new : List ℕ) : Type 0 where
  pub is : r ≡ numbers_of line (length old)
  pub values : r ≡ Ok tt → new ≡ values_from line 0 (length old)
