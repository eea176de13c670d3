-- After n turns the lines of the first n indexes are put, in at most 200 bytes each. Assumes nothing.
use native.Mathlib.Omega.{arith}
use Rattle.walk_text.proofs.PutLaws.{no_line, next_line}
use Rattle.walk_text.proofs.put_lines.Goals as goal

pub loop-n-init : goal.loop-n-init
loop-n-init c =
    let a = c.args in
    (omega arith, no_line a.p.family a.p.axes a.p.bases.now a.p.directions.now a.out.now a.start)

pub loop-n-preserved : goal.loop-n-preserved
loop-n-preserved c =
    let a = c.args in
    (omega arith, next_line a.p.family a.p.axes a.p.bases.now a.p.directions.now c.loop-n.n (omega arith) c.loop-n.invariant.1 c.put_line-at.ensures.0)
