-- The bases and the tables of all axes of a Halton plan, 256 entries an axis. Definitions only.
use Rattle.std.specs.Prelude.{List, ℕ, ◌*◌, ◌<◌, ◌≤◌, length, get_or, take, drop}
use Rattle.tables.specs.Tables.{tabled}
use Rattle.halton_blocks.specs.Filling.{Ready, Made}

-- the first `axes` of these bases, six at most, are from 2 to 256
pub record Bases (axes : ℕ) (bases : List ℕ) : Type 0 where
  pub few : axes ≤ 6
  pub reach : axes ≤ length bases
  pub low : (i : ℕ) → i < axes → 2 ≤ get_or bases i 0
  pub high : (i : ℕ) → i < axes → get_or bases i 0 ≤ 256

-- the entries of axis i
abbrev pub entries_at : List ℕ → ℕ → List ℕ
entries_at l i = take 256 (drop (256 * i) l)

-- the numerator i places after its own index on axis a, by the images of its digits
unfoldable pub tabled_at : List ℕ → List ℕ → (ℕ → ℕ) → ℕ → ℕ → ℕ
tabled_at bases images n a i = tabled (entries_at images a) (get_or bases a 0) (n a) i

-- the tables of each axis are ready
pub record AllReady (axes : ℕ) (bases sizes images tables : List ℕ) : Type 0 where
  pub at : (i : ℕ) → i < axes → Ready (get_or bases i 0) (get_or sizes i 0) (entries_at images i) (entries_at tables i)

-- and their images are a family's
pub record AllMade (family axes : ℕ) (bases sizes images tables : List ℕ) : Type 0 where
  pub at : (i : ℕ) → i < axes → Made family (get_or bases i 0) (get_or sizes i 0) (entries_at images i) (entries_at tables i)
