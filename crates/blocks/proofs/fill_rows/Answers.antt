-- `blocks::fill_rows` meets its contract: the columns of the first i axes are written. Assumes nothing.
use native.Mathlib.Omega.{arith}
use Rattle.columns.proofs.ColumnLaws.{columns_more, columns_to}
use Rattle.points.specs.Arrays.{numerators_from}
use Rattle.blocks.proofs.fill_rows.Goals as goal

pub loop-i-preserved : goal.loop-i-preserved
unfolding numerators_from
loop-i-preserved c =
    let l = c.loop-i in
    columns_more l.invariant c.fill_column.ensures (omega arith)

pub returns : goal.returns
returns c = columns_to c.loop-i.invariant (omega arith)
