-- After i turns the first i bases stand from bit 5 on. Assumes nothing.
use mathlib.Core.Path.{◌≡◌, subst}
use Prim.Native.Nat.{ℕ, ◌+◌, ◌*◌}
use native.Mathlib.Omega.{arith}
use lib.ListN.{take}
use Rattle.plan.specs.Plan.{bases_bits}
use Rattle.axes_writer.specs.Parts.{BitsPut}
use Rattle.axes_writer.proofs.PartLaws.{put_field, no_base, next_base}
use Rattle.axes_writer.proofs.put_bases.Goals as goal

pub loop-i-init : goal.loop-i-init
loop-i-init c = no_base _ c.args.bases.now

pub overflow_sub-bases : goal.overflow_sub-bases
overflow_sub-bases c =
    omega (arith, c.requires.3 c.loop-i.i (omega arith))

pub loop-i-preserved : goal.loop-i-preserved
loop-i-preserved c =
    let a = c.args in
    next_base a.bases.now c.loop-i.i (omega arith) (omega arith) c.loop-i.invariant (put_field _ _ _ c.put.auto.out c.put.ensures (omega arith) (omega arith) (omega arith))

pub shape_of-out : goal.shape_of-out
shape_of-out c = c.loop-i.invariant.size

pub returns : goal.returns
returns c =
    let a = c.args in
    let e : c.loop-i.i ≡ a.axes = omega arith in
    subst (λ (k : ℕ). BitsPut a.out.now c.loop-i.out 5 (bases_bits (take k a.bases.now)) (5 + 8 * k)) e c.loop-i.invariant
