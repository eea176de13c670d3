-- The axes so far, in at most 65 bytes each. Assumes nothing.
use mathlib.Core.Path.{◌≡◌}
use native.Mathlib.Omega.{arith}
use Rattle.plan_text.proofs.WordLaws.{axes_none, next_axis}
use Rattle.plan_text.proofs.put_axes.Goals as goal

pub loop-i-init : goal.loop-i-init
loop-i-init c =
    let a = c.args in
    (omega arith, axes_none a.out.now a.start a.polynomials.now a.ms.now)

pub put_axis-at-requires : goal.put_axis-at-requires
put_axis-at-requires c =
    (omega arith, omega (arith, c.loop-i.invariant.1.size), c.requires.2 c.loop-i.i (omega arith))

pub loop-i-preserved : goal.loop-i-preserved
loop-i-preserved c =
    let a = c.args in
    (omega (arith, c.put_axis-at.ensures.1), next_axis (omega arith) a.polynomials.now a.ms.now c.loop-i.i c.loop-i.invariant.1 c.put_axis-at.ensures.0)

pub shape_of-out : goal.shape_of-out
shape_of-out c = c.loop-i.invariant.1.size

pub returns : goal.returns
returns c =
    let l = c.loop-i in
    let e : l.i ≡ c.args.axes = omega arith in
    (rw e at l.invariant.1, omega arith)
