-- The words so far are axes. Assumes nothing.
use native.Mathlib.Omega.{arith}
use Rattle.plan_words.proofs.ParseLaws.{first_place, next_place, here, no_axes, axis_next, axis_wrong, axes_all}
use Rattle.plan_words.proofs.parse_axes.Goals as goal

pub loop-i-init : goal.loop-i-init
loop-i-init c = (first_place _ _ (omega arith), no_axes _ _)

pub returns-in-Err : goal.returns-in-Err
returns-in-Err c =
    let l = c.loop-i in
    let x = c.in-Err.x in
    let w = c.in-Err.ensures in
    rw c.report.ensures
    (axis_wrong l.invariant.1 w.0 _ x.code x.place x.got (omega arith) w.1.1 (rw (here l.invariant.0 c.find-w.ensures) at w.1.0))

pub loop-i-preserved : goal.loop-i-preserved
loop-i-preserved c =
    let l = c.loop-i in
    let x = c.in-Ok.ensures in (
      next_place l.invariant.0 c.find-w.ensures,
      axis_next l.invariant.1 x.0 _ (omega arith) x.1.1 (rw (here l.invariant.0 c.find-w.ensures) at x.1.0),
    )

pub returns : goal.returns
returns c =
    let l = c.loop-i in axes_all l.invariant.1 _ (omega arith)
