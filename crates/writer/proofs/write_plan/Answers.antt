-- The plan's bits and the zero bits after them fill the first bytes of the buffer, and these are copied where there is room. Assumes nothing.
use mathlib.Core.Path.{sym}
use native.Mathlib.Omega.{arith}
use lib.ListN.{length-take}
use lib.Seq.{length-take-le}
use Rattle.bits.proofs.PackLaws.{as_bytes}
use Rattle.plan.specs.Answer.{plan_of}
use Rattle.axes_writer.proofs.PartLaws.{put_field}
use Rattle.writer.proofs.AnswerLaws.{no_room_lem, has_room}
use Rattle.writer.proofs.write_plan.Goals as goal

pub returns-then-out-len : goal.returns-then-out-len
returns-then-out-len c =
    let a = c.args in
    let p = plan_of a.family a.axes a.bases.now a.polynomials.now a.ms.now in
    no_room_lem p _ c.put_plan-n.ensures.0 (as_bytes _) a.out.now (omega arith)

pub slice_bounds-copy-end : goal.slice_bounds-copy-end
slice_bounds-copy-end c = sym (length-take-le _ _ (omega arith))

pub copy-requires : goal.copy-requires
copy-requires c = simp length-take (omega arith)

pub returns : goal.returns
returns c =
    let a = c.args in
    let p = plan_of a.family a.axes a.bases.now a.polynomials.now a.ms.now in
    has_room p _ c.put_plan-n.ensures.0 (as_bytes _)
    (put_field _ _ _ c.put.auto.out c.put.ensures (omega arith) (omega arith) (omega arith))
    (omega arith) c.copy.ensures.1 c.copy.ensures.0
