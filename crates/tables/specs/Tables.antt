-- The points of one Halton axis by a table of the images of its digits. Definitions only.
use Rattle.std.specs.Prelude.{List, ℕ, ◌+◌}
use Rattle.halton.specs.Axis.{numerator}
use Rattle.halton.specs.Images.{image_in}

-- the numerator i places after index n, by the table of images
unfoldable pub tabled : List ℕ → ℕ → ℕ → ℕ → ℕ
tabled l b n i = numerator (image_in l) b (n + i)
