-- The tables of an axis give its points. Assumes nothing.
use mathlib.Core.Path.{◌≡◌}
use mathlib.Core.List.{List}
use Prim.Native.Nat.{ℕ, ◌+◌}
use native.Mathlib.Omega.{arith}
use Rattle.numbers.specs.Depth.{depth}
use Rattle.numbers.proofs.NumeratorLaws.{numerator_ext}
use Rattle.permutation.specs.Families.{image_of}
use Rattle.halton.specs.Axis.{numerator}
use Rattle.halton.specs.Images.{image_in}
use Rattle.tables.specs.Tables.{tabled}
use Rattle.halton_blocks.specs.Filling.{halton_from, Made}

pub made_points : {family b size : ℕ} {l t : List ℕ} → Made family b size l t → (n i : ℕ) → tabled l b n i ≡ halton_from family b n i
unfolding tabled halton_from numerator
made_points {family} {b} {size} {l} made n i =
    numerator_ext (image_in l) (image_of family b) b (depth b) (n + i) (omega (arith, made.ready.low)) made.images.at
