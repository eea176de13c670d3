-- The parts so far are numbers, in their places. Assumes nothing.
use Rattle.std.proofs.Common.{arith}
use Rattle.axis_words.proofs.PartLaws.{so_far_none, so_far_bad, so_far_next, so_far_all}
use Rattle.axis_words.proofs.parse_ms.Goals as goal

pub loop-k-init : goal.loop-k-init
loop-k-init c = so_far_none _ _ _

pub returns-in_default : goal.returns-in_default
returns-in_default c = so_far_bad c.loop-k.invariant c.part_end-end.result c.part_end-end.ensures.0 _ (omega arith) c.in_default.ensures

pub bounds-ms-i : goal.bounds-ms-i
bounds-ms-i c = omega (arith, c.loop-k.invariant.kept.size)

pub loop-k-preserved : goal.loop-k-preserved
loop-k-preserved c =
    let l = c.loop-k in
    so_far_next l.invariant c.part_end-end.result c.part_end-end.ensures.0 _ c.next_place-at.result
    (omega (arith, l.invariant.kept.size)) c.next_place-at.ensures.0 c.next_place-at.ensures.1 c.in-Some.ensures

pub shape_of-ms : goal.shape_of-ms
shape_of-ms c = c.loop-k.invariant.kept.size

pub returns : goal.returns
returns c = let l = c.loop-k in so_far_all l.invariant _ (omega arith)
