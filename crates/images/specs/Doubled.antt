-- A part of a table doubled in place: twice each of its numbers, and one more than that some places on. Definitions only.
use Rattle.std.specs.Prelude.{◌≡◌, List, ℕ, ◌+◌, ◌*◌, ◌<◌, ◌≤◌, get_or}

-- the numbers at the places a to e - 1 are below 128, so that a byte holds twice each and one more
pub record Small (a e : ℕ) (l : List ℕ) : Type 0 where
  pub at : (j : ℕ) → a ≤ j → j < e → get_or l j 0 < 128

-- Of the number x at each place from a to e - 1, 2 x stands there and 2 x + 1 stands s places on. What lies before them and between the two is as it
-- was.
pub record Doubled (a e s : ℕ) (old new : List ℕ) : Type 0 where
  pub low : (j : ℕ) → a ≤ j → j < e → get_or new j 0 ≡ 2 * get_or old j 0
  pub high : (j : ℕ) → a ≤ j → j < e → get_or new (s + j) 0 ≡ 2 * get_or old j 0 + 1
  pub before : (j : ℕ) → j < a → get_or new j 0 ≡ get_or old j 0
  pub between : (j : ℕ) → e ≤ j → j < s + a → get_or new j 0 ≡ get_or old j 0
