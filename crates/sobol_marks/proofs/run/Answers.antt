-- `sobol_marks::run` meets its contract: the flags up to i are tested. Assumes nothing.
use native.Mathlib.Omega.{arith}
use Rattle.columns.specs.Tiles.{tile_of}
use Rattle.marks.proofs.MarkLaws.{marked_more}
use Rattle.sobol_marks.proofs.run.Goals as goal

pub loop-i-preserved : goal.loop-i-preserved
unfolding tile_of
loop-i-preserved c =
    let l = c.loop-i in
    marked_more l.invariant c.keep.result (omega arith) (omega arith) c.keep.ensures
