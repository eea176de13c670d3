-- `halton_blocks::run` meets its contract: the rows up to i are written. Assumes nothing.
use mathlib.Core.Path.{refl}
use native.Mathlib.Omega.{arith}
use Rattle.columns.specs.Tiles.{tile_of}
use Rattle.columns.proofs.ColumnLaws.{column_more, row_end}
use Rattle.halton_blocks.proofs.run.Goals as goal

pub loop-i-preserved : goal.loop-i-preserved
unfolding tile_of
loop-i-preserved c =
    let a = c.args in
    column_more c.loop-i.invariant _ (omega arith) (omega arith) (omega (arith, row_end c.loop-i.i a.hi a.s a.j (omega arith) (omega arith))) refl
