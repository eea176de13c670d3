-- `inside_count::count_inside` meets its contract: so many of the first i points are inside. Assumes nothing.
use mathlib.Core.Path.{◌≡◌}
use Prim.Native.Nat.{◌-◌, ◌≤◌}
use Rattle.numbers.specs.Count.{count}
use Rattle.points.specs.Arrays.{of_axis}
use Rattle.window.specs.Walking.{inside_from}
use Rattle.inside_count.proofs.count_inside.Given as goal

abbrev pub invariant-loop-i : goal.invariant-loop-i
invariant-loop-i l = (l.i ≤ l.k) × (l.t ≡ count (inside_from l.p.family l.p.bases.now l.p.directions.now l.w l.p.axes (of_axis l.ns)) l.i)

abbrev pub decreases-loop-i : goal.decreases-loop-i
decreases-loop-i l = l.k - l.i
