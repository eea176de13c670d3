-- `blocks::fill_by_tables` meets its contract: the points of the rows up to `row` are written. Assumes nothing.
use Prim.Native.Nat.{◌+◌, ◌-◌, ◌≤◌}
use Rattle.columns.specs.Rows.{Columns}
use Rattle.points.specs.Arrays.{of_axis, numerators_from}
use Rattle.blocks.proofs.fill_by_tables.Given as goal

abbrev pub invariant-loop-row : goal.invariant-loop-row
invariant-loop-row l =
    (l.row ≤ l.k) × Columns (numerators_from l.p.family l.p.bases.now l.p.directions.now (of_axis l.ns)) 0 l.row (l.lead + l.p.axes) l.lead l.p.axes l.initial.out l.out

abbrev pub decreases-loop-row : goal.decreases-loop-row
decreases-loop-row l = l.k - l.row
