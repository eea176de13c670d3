-- After i turns the first i axes stand from bit 5 on, in at most 160 bits each. Assumes nothing.
use mathlib.Core.Path.{◌≡◌, subst}
use Prim.Native.Nat.{ℕ}
use native.Mathlib.Omega.{arith}
use Rattle.plan.specs.Plan.{axes_bits}
use Rattle.plan.specs.Answer.{axes_of}
use Rattle.axes_writer.specs.Parts.{BitsPut}
use Rattle.axes_writer.proofs.PartLaws.{no_axis_lem, next_axis}
use Rattle.axes_writer.proofs.put_axes.Goals as goal

pub loop-i-init : goal.loop-i-init
loop-i-init c =
    let a = c.args in
    (omega arith, no_axis_lem a.out.now a.polynomials.now a.ms.now)

pub put_axis-at-requires : goal.put_axis-at-requires
put_axis-at-requires c =
    omega (arith, c.requires.4 c.loop-i.i (omega arith))

pub loop-i-preserved : goal.loop-i-preserved
loop-i-preserved c =
    let a = c.args in
    (omega arith, next_axis a.polynomials.now a.ms.now c.loop-i.i (omega arith) c.loop-i.invariant.1 c.put_axis-at.ensures.0)

pub shape_of-out : goal.shape_of-out
shape_of-out c = c.loop-i.invariant.1.size

pub returns : goal.returns
returns c =
    let a = c.args in
    let e : c.loop-i.i ≡ a.axes = omega arith in
    (subst (λ (k : ℕ). BitsPut a.out.now c.loop-i.out 5 (axes_bits (axes_of a.polynomials.now a.ms.now k)) c.loop-i.at) e c.loop-i.invariant.1, omega arith)
