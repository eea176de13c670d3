-- `halton_marks::run` meets its contract: the flags up to i are tested. Assumes nothing.
use mathlib.Core.Path.{ap, ◌∙◌}
use mathlib.Core.Bool.{Bool, cond}
use native.Mathlib.Omega.{arith}
use lib.ListN.{get_or}
use Rattle.columns.specs.Tiles.{tile_of}
use Rattle.marks.proofs.MarkLaws.{marked_more}
use Rattle.halton_marks.proofs.LeftLaws.{left_test}
use Rattle.halton_marks.proofs.run.Goals as goal

pub loop-i-preserved : goal.loop-i-preserved
unfolding tile_of
loop-i-preserved c =
    let a = c.args in
    let l = c.loop-i in
    marked_more l.invariant c.keep.result (omega arith) (omega arith)
    (c.keep.ensures ∙ ap (λ (b : Bool). cond b (get_or l.l l.i 0) 0) (left_test _ a.base a.limit _ c.left-bound.ensures))
