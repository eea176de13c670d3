-- The state made of the plan holds its arrays; the head line and the four lines are put one after another. Assumes nothing.
use Prim.Native.Nat.{◌≤◌}
use native.Mathlib.Omega.{arith}
use lib.ListN.{length}
use Rattle.plan.specs.Answer.{plan_answered}
use Rattle.points.specs.Arrays.{Arrays}
use Rattle.walk_text.specs.Text.{text_of}
use Rattle.text.proofs.PutLaws.{put_then}
use Rattle.walk_text.proofs.ArrayLaws.{made_arrays, made_axes, made_lines}
use Rattle.walk_text.proofs.put_accepted.Goals as goal
use Rattle.walk_text.proofs.put_accepted.Goals.{After-make-s}

arrays : (c : After-make-s) → let s = c.make-s.result in Arrays s.family s.axes s.bases s.directions
arrays c = made_arrays _ c.requires.0.valid _ 0 c.make-s.result c.make-s.ensures

pub make-s-requires : goal.make-s-requires
make-s-requires c = c.requires.0

pub invariant_of-axes : goal.invariant_of-axes
invariant_of-axes c = record { fit = arrays (goal.at.invariant_of-axes c).After-make-s }

pub put_head-after_head-requires : goal.put_head-after_head-requires
put_head-after_head-requires c = omega (arith, arrays (goal.at.put_head-after_head-requires c).After-make-s)

pub put_lines-requires : goal.put_lines-requires
put_lines-requires c =
    omega arith

pub returns : goal.returns
unfolding text_of
returns c =
    let p = plan_answered c.args.a in
    let v = c.requires.0.valid in
    let s = c.make-s.result in
    let room : 0 ≤ length c.args.out.now = omega arith in
    rw (← made_axes p v _ 0 s c.make-s.ensures, ← made_lines p v _ 0 s c.make-s.ensures 4)
    (put_then room c.put_head-after_head.ensures.0 c.put_lines.ensures.0)
