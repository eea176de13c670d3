-- `blocks::fill_rows` meets its contract: the columns of the first i axes are written. Assumes nothing.
use Prim.Native.Nat.{◌+◌}
use Rattle.columns.specs.Rows.{Columns}
use Rattle.points.specs.Arrays.{of_axis, numerators_from}
use Rattle.blocks.proofs.fill_rows.Given as goal

abbrev pub invariant-loop-i : goal.invariant-loop-i
invariant-loop-i l = Columns (numerators_from l.p.family l.p.bases.now l.p.directions.now (of_axis l.ns)) l.lo l.hi (l.lead + l.p.axes) l.lead l.i l.initial.out l.out
