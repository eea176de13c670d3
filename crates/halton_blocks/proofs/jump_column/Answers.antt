-- `halton_blocks::jump_column` meets its contract: the rows up to i are written. Assumes nothing.
use mathlib.Core.Path.{◌∙◌}
use native.Mathlib.Omega.{arith}
use Rattle.halton.proofs.ImageLaws.{numerator_by_family}
use Rattle.columns.proofs.ColumnLaws.{column_more, row_end}
use Rattle.halton_blocks.specs.Filling.{halton_from}
use Rattle.halton_blocks.proofs.jump_column.Goals as goal

pub loop-i-preserved : goal.loop-i-preserved
unfolding halton_from
loop-i-preserved c =
    let a = c.args in
    column_more c.loop-i.invariant _ (omega arith) (omega arith) (omega (arith, row_end c.loop-i.i a.hi a.s a.j (omega arith) (omega arith)))
    (c.jump-r.ensures ∙ numerator_by_family _ _ (omega arith) _)
