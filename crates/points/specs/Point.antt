-- The points of a plan: on each axis exactly van der Corput's, Faure's, Kocis and Whiten's or Sobol's (01-scope.md, "Points"; 02's K5). Definitions
-- only.
use Rattle.std.specs.Prelude.{List, ℕ, ◌*◌, ◌/◌, ◌^◌, length, get_or}
use Rattle.numbers.specs.Depth.{denominator}
use Rattle.numbers.specs.Listed.{listed}
use Rattle.permutation.specs.Families.{image_of}
use Rattle.halton.specs.Axis.{numerator}
use Rattle.sobol.specs.Directions.{directions}
use Rattle.sobol.specs.Stepping.{stepped}
use Rattle.plan.specs.Plan.{Axis, no_axis, Plan, halton, sobol}

unfoldable pub axis_count : Plan → ℕ
axis_count (halton family bases) = length bases
axis_count (sobol axes) = length axes

-- the direction numbers v_1 to v_32 of a Sobol axis
abbrev pub axis_directions : Axis → List ℕ
axis_directions x = directions (length x.ms) x.polynomial x.ms

-- the denominator of axis i
unfoldable pub denominator_of : Plan → ℕ → ℕ
denominator_of (halton family bases) i = denominator (get_or bases i 0)
denominator_of (sobol axes) i = 2 ^ 32

-- the numerator of index n on axis i
unfoldable pub numerator_of : Plan → ℕ → ℕ → ℕ
numerator_of (halton family bases) n i = numerator (image_of family (get_or bases i 0)) (get_or bases i 0) n
numerator_of (sobol axes) n i = stepped (axis_directions (get_or axes i no_axis)) n

-- the point of index n: one numerator per axis
unfoldable pub point_of : Plan → ℕ → List ℕ
point_of p n = listed (numerator_of p n) (axis_count p)

-- the slot of index n on axis i among so many: the whole part of the axis's fraction × slots
unfoldable pub slot_of : Plan → ℕ → ℕ → ℕ → ℕ
slot_of p slots n i = numerator_of p n i * slots / denominator_of p i
