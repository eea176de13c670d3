-- A window over a run of a plan that is held in arrays. Definitions only.
use Rattle.std.specs.Prelude.{Bool, true, false, List, ℕ, ◌+◌, ◌*◌, ◌^◌, ◌≤◌, ◌<◌, length}
use Rattle.numbers.specs.Count.{each}
use Rattle.discrepancy.specs.Bound.{bound}
use Rattle.points.specs.Arrays.{numerator_at, denominator_at}
use Rattle.points.specs.declared.plan_axes.PlanAxes.{PlanAxes}
use Rattle.window.specs.Counting.{in_cut, base_at, cut_at}

-- axis i is inside at index n
unfoldable pub axis_inside_by : ℕ → List ℕ → List ℕ → List ℕ → ℕ → ℕ → Bool
axis_inside_by family bases vs w n i = in_cut (cut_at w i) (numerator_at family bases vs n i) (denominator_at family bases i)

-- the point t places after an index for each axis is inside on the first s axes
unfoldable pub inside_from : ℕ → List ℕ → List ℕ → List ℕ → ℕ → (ℕ → ℕ) → ℕ → Bool
inside_from family bases vs w s n t = each (λ i. axis_inside_by family bases vs w (n i + t) i) s

-- the same by the axes that are lent
abbrev pub axes_inside : PlanAxes → List ℕ → (ℕ → ℕ) → ℕ → Bool
axes_inside p w n = inside_from p.family p.bases.now p.directions.now w p.axes n

-- the bound: 0 for Sobol
unfoldable pub bound_by : Bool → List ℕ → ℕ → ℕ → ℕ
bound_by true bases N s = 0
bound_by false bases N s = bound (base_at bases) s N

-- the window has two numbers for each of s axes, each at most 2^24, and no q is 0
pub record Room (w : List ℕ) (s : ℕ) : Type 0 where
  pub enough : 2 * s ≤ length w
  pub u_small : (i : ℕ) → i < s → (cut_at w i).u ≤ 2 ^ 24
  pub q_pos : (i : ℕ) → i < s → 1 ≤ (cut_at w i).q
  pub q_small : (i : ℕ) → i < s → (cut_at w i).q ≤ 2 ^ 24
