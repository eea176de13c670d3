-- The axis that a word spells: `0`, or the polynomial and its given m's as P:M,M,.. in decimal. Definitions only.
use Rattle.std.specs.Prelude.{◌≡◌, ℕ, zero, suc, ◌+◌, ◌^◌, ◌<◌, ◌≤◌, Bool, cond, not, Ok, List, [], ◌∷◌, length, take, drop, ◌==◌, slice_index}
use Rattle.binary.specs.Polynomial.{degree_of}
use Rattle.words.specs.Word.{leading}
use Rattle.words.specs.Decimal.{number_of}
use Rattle.plan.specs.Plan.{Axis}

abbrev pub comma : ℕ
comma = 44

abbrev pub colon : ℕ
colon = 58

unfoldable pub is_not : ℕ → ℕ → Bool
is_not stop b = not (b == stop)

-- a text up to the first byte `stop`, and after it
unfoldable pub up_to : ℕ → List ℕ → List ℕ
up_to stop text = take (leading (is_not stop) text) text

unfoldable pub past : ℕ → List ℕ → List ℕ
past stop text = drop (leading (is_not stop) text + 1) text

-- a text after its first k commas, part k (from 0) of those that commas make, and how many there are
unfoldable pub rest_at : List ℕ → ℕ → List ℕ
rest_at text zero = text
rest_at text (suc k) = past comma (rest_at text k)

abbrev pub part_at : List ℕ → ℕ → List ℕ
part_at text k = up_to comma (rest_at text k)

unfoldable pub commas_in : List ℕ → ℕ
commas_in [] = 0
commas_in (b ∷ text) = cond (b == comma) 1 0 + commas_in text

-- the word is P:M,M,.. with the polynomial p of degree 1 to 12 and as many m's as its degree
pub record Given (word : List ℕ) (p : ℕ) (ms : List ℕ) : Type 0 where
  pub polynomial : number_of (up_to colon word) ≡ Ok p
  pub low : 2 ≤ p
  pub high : p < 2 ^ 13
  pub parts : commas_in (past colon word) + 1 ≡ degree_of p
  pub long : length ms ≡ degree_of p
  pub each : (k : ℕ) → k < degree_of p → number_of (part_at (past colon word) k) ≡ Ok (slice_index ms k)

-- the word 0
abbrev pub zero_word : List ℕ
zero_word = 48 ∷ []

-- the word spells this axis; 0 is the plain binary axis, whose polynomial is 1
pub data AxisWord (word : List ℕ) : Axis → Type 0 where
  plain : word ≡ zero_word → AxisWord word (record { polynomial = 1; ms = [] })
  given : (p : ℕ) (ms : List ℕ) → Given word p ms → AxisWord word (record { polynomial = p; ms = ms })
