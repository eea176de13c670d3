-- The points of a plan's axes: those of `Arrays`, by the arrays that are lent. Definitions only.
use Rattle.std.specs.Prelude.{List, ℕ}
use Rattle.points.specs.Arrays.{numerators_from, point_at}
use Rattle.points.specs.declared.plan_axes.PlanAxes.{PlanAxes}

-- the point of an index for each axis
abbrev pub axes_point : PlanAxes → (ℕ → ℕ) → List ℕ
axes_point p n = point_at p.family p.axes p.bases.now p.directions.now n

-- the numerator t places after its own index on axis i
abbrev pub axes_numerators : PlanAxes → (ℕ → ℕ) → ℕ → ℕ → ℕ
axes_numerators p n = numerators_from p.family p.bases.now p.directions.now n
