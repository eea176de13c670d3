-- After i turns the first i m's stand from the start on, in at most twelve bits each. Assumes nothing.
use mathlib.Core.Path.{◌≡◌, subst}
use Prim.Native.Nat.{ℕ}
use native.Mathlib.Omega.{arith}
use lib.ListN.{take, drop, length-drop}
use lib.Seq.{get_or-drop}
use Rattle.plan.specs.Plan.{ms_bits}
use Rattle.axes_writer.specs.Parts.{BitsPut}
use Rattle.axes_writer.proofs.PartLaws.{put_field, no_m, next_m}
use Rattle.axes_writer.proofs.put_ms.Goals as goal

pub loop-i-init : goal.loop-i-init
loop-i-init c =
    let a = c.args in
    (omega arith, no_m a.out.now a.start (drop a.from a.ms.now))

pub loop-i-preserved : goal.loop-i-preserved
loop-i-preserved c =
    let a = c.args in
    let rest = drop a.from a.ms.now in (
      omega arith,
      next_m rest c.loop-i.i (omega (arith, length-drop a.from a.ms.now)) (omega arith) c.loop-i.invariant.1
          (put_field _ _ _ c.put.auto.out c.put.ensures (omega arith) (omega arith) (omega (arith, get_or-drop a.from a.ms.now c.loop-i.i 0))),
    )

pub shape_of-out : goal.shape_of-out
shape_of-out c = c.loop-i.invariant.1.size

pub returns : goal.returns
returns c =
    let a = c.args in
    let e : c.loop-i.i ≡ a.degree = omega arith in
    (subst (λ (k : ℕ). BitsPut a.out.now c.loop-i.out a.start (ms_bits 1 (take k (drop a.from a.ms.now))) c.loop-i.at) e c.loop-i.invariant.1, omega arith)
