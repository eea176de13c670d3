-- `blocks::fill_plainly` meets its contract: the points of the first i rows are written. Assumes nothing.
use Prim.Native.Nat.{◌+◌, ◌-◌, ◌≤◌}
use Rattle.columns.specs.Rows.{Columns}
use Rattle.points.specs.Arrays.{of_axis, numerators_from}
use Rattle.blocks.proofs.fill_plainly.Given as goal

abbrev pub invariant-loop-i : goal.invariant-loop-i
invariant-loop-i l =
    (l.i ≤ l.k) × Columns (numerators_from l.p.family l.p.bases.now l.p.directions.now (of_axis l.ns)) 0 l.i (l.lead + l.p.axes) l.lead l.p.axes l.initial.out l.out

abbrev pub decreases-loop-i : goal.decreases-loop-i
decreases-loop-i l = l.k - l.i
