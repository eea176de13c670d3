-- The whole part and the rest make the product, which is at most v. Assumes nothing.
use Prim.Native.Nat.{◌/◌, ◌%◌, ◌^◌}
use native.Mathlib.Nat.{div-mul-le_self, mul-le-mul_left}
use native.Mathlib.Omega.{arith}
use Rattle.volumes.proofs.VolumeLaws.{cut_parts, cut_least, rest_low}
use Rattle.volumes.proofs.cut.Goals as goal

pub overflow_mul-result : goal.overflow_mul-result
overflow_mul-result c =
    let a = c.args in
    omega (arith, div-mul-le_self a.v a.q, mul-le-mul_left {m = a.u} {n = a.q} (a.v / a.q) (omega arith))

pub overflow_mul-result-2 : goal.overflow_mul-result-2
overflow_mul-result-2 c =
    let a = c.args in
    omega (arith, rest_low a.v a.u a.q (omega arith), mul-le-mul_left {m = a.u} {n = 2 ^ 24} (a.v % a.q) (omega arith))

pub overflow_add-result : goal.overflow_add-result
overflow_add-result c =
    let a = c.args in
    omega (arith, cut_parts a.v a.u a.q (omega arith), cut_least a.v a.u a.q (omega arith) (omega arith))

pub returns : goal.returns
returns c =
    let a = c.args in (
      cut_parts a.v a.u a.q (omega arith),
      omega (arith, cut_parts a.v a.u a.q (omega arith), cut_least a.v a.u a.q (omega arith) (omega arith)),
    )
