-- `blocks::table_rows` meets its contract: the columns of the first i axes are written. Assumes nothing.
use Prim.Native.Nat.{◌+◌}
use Rattle.columns.specs.Rows.{Columns}
use Rattle.points.specs.Arrays.{of_axis}
use Rattle.blocks.specs.Tables.{tabled_at}
use Rattle.blocks.proofs.table_rows.Given as goal

abbrev pub invariant-loop-i : goal.invariant-loop-i
invariant-loop-i l = Columns (tabled_at l.bases l.images (of_axis l.ns)) l.lo l.hi (l.lead + l.axes) l.lead l.i l.initial.out l.out
