-- A state as a row of 220 words, in the struct's order, and one of them set. Definitions only.
use Rattle.std.specs.Prelude.{List, [], ◌∷◌, ◌++◌, ℕ, take, drop, get_or, set}
use Rattle.state.specs.declared.Sampler.{Sampler}

-- every word of a state
unfoldable pub words_of : Sampler → List ℕ
words_of s =
    (s.family ∷ s.axes ∷ []) ++ s.bases ++ s.polynomials ++ s.directions ++ s.starts ++ (s.count ∷ s.taken ∷ []) ++ s.numerators

-- n words of a list, from a place on
abbrev pub part : List ℕ → ℕ → ℕ → List ℕ
part l at n = take n (drop at l)

-- the state that has these words
unfoldable pub from_words : List ℕ → Sampler
from_words l = record {
  family = get_or l 0 0;
  axes = get_or l 1 0;
  bases = part l 2 6;
  polynomials = part l 8 6;
  directions = part l 14 192;
  starts = part l 206 6;
  count = get_or l 212 0;
  taken = get_or l 213 0;
  numerators = part l 214 6;
}

-- the word at a place, from 0
abbrev pub word_of : Sampler → ℕ → ℕ
word_of s place = get_or (words_of s) place 0

-- the state with a word set
unfoldable pub poked : Sampler → ℕ → ℕ → Sampler
poked s place value = from_words (set (words_of s) place value)
