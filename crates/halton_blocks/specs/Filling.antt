-- Many points of a Halton axis in a row: those from an index on, and the tables that give them. Definitions only.
use Rattle.std.specs.Prelude.{List, ℕ, ◌+◌, ◌≤◌}
use Rattle.numbers.specs.Listed.{Begins}
use Rattle.permutation.specs.Families.{image_of}
use Rattle.halton.specs.Axis.{numerator}
use Rattle.halton.specs.Images.{image_in, DigitMap}
use Rattle.columns.specs.Tiles.{Table}

-- the numerator i places after index n on an axis of base b
unfoldable pub halton_from : ℕ → ℕ → ℕ → ℕ → ℕ
halton_from family b n i = numerator (image_of family b) b (n + i)

-- what a run of points by tables asks: the base b, images of its digits in l, and the first `size` points by them in t
pub record Ready (b size : ℕ) (l t : List ℕ) : Type 0 where
  pub low : 2 ≤ b
  pub high : b ≤ 256
  pub few : size ≤ 256
  pub digits : DigitMap b (image_in l)
  pub table : Table (numerator (image_in l) b) b size t

-- tables that are ready, with the images of a family
pub record Made (family b size : ℕ) (l t : List ℕ) : Type 0 where
  pub ready : Ready b size l t
  pub images : Begins (image_of family b) b l
