-- The degree, the coefficients and the m's are put one after another; there is one coefficient less than the degree. Assumes nothing.
use mathlib.Core.Path.{◌≡◌}
use Prim.Native.Nat.{◌-◌}
use native.Mathlib.Omega.{arith}
use Rattle.axes_writer.proofs.PartLaws.{put_field, whole_axis}
use Rattle.axes_writer.proofs.put_axis.Goals as goal
use Rattle.axes_writer.proofs.put_axis.Goals.{Joined-d-eq0, else-d-eq0, then-d-eq0}

-- how many coefficients there are
width : (c : Joined-d-eq0) → c.if-d-eq0.w ≡ c.degree-d.result - 1
width c = elim c.if-d-eq0.branch [ then-d-eq0 t ↦ omega arith | else-d-eq0 t ↦ omega arith ]

pub put-requires-2 : goal.put-requires-2
put-requires-2 c = omega (arith, width (goal.at.put-requires-2 c).Joined-d-eq0)

pub overflow_add-start-3 : goal.overflow_add-start-3
overflow_add-start-3 c = omega (arith, width (goal.at.overflow_add-start-3 c).Joined-d-eq0)

pub put_ms-requires : goal.put_ms-requires
put_ms-requires c = omega (arith, width (goal.at.put_ms-requires c).Joined-d-eq0)

pub returns : goal.returns
returns c =
    let a = c.args in
    let e = width (goal.at.returns c).Joined-d-eq0 in (
      whole_axis a.polynomials.now a.ms.now a.i _ _ (omega arith) (omega arith) (omega arith) (omega arith) c.degree-d.ensures e
          (put_field _ _ _ c.put.auto.out c.put.ensures (omega arith) (omega arith) (omega arith))
          (put_field _ _ _ c.put-2.auto.out c.put-2.ensures (omega arith) (omega arith) (omega arith)) c.put_ms.ensures.0,
      omega arith,
    )
