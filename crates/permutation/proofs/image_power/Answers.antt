-- `permutation::image_power` meets its contract: each turn takes the lowest binary digit of what is left. Assumes nothing.
use Prim.Native.Nat.{◌+◌, ◌*◌, ◌/◌, ◌%◌, ◌<◌}
use native.Mathlib.Omega.{arith}
use Rattle.permutation.proofs.FaureLaws.{faure_below}
use Rattle.permutation.proofs.ReversalLaws.{Reversing, reversing_none, reversing_next, reversing_le, reversing_end}
use Rattle.permutation.proofs.image_power.Goals as goal
use Rattle.permutation.proofs.image_power.Goals.{In-loop-h}

pub loop-h-init : goal.loop-h-init
loop-h-init c = reversing_none c.args.b c.args.k (omega arith) (omega arith) (omega arith)

-- one digit more, which fits since the image does
next : (c : In-loop-h) →
    let l = c.loop-h in
    let a = c.args in
    Reversing a.b a.k (l.h / 2) (l.d / 2) (2 * l.r + l.d % 2) × (2 * l.r + l.d % 2 < a.b)
next c =
    let a = c.args in
    let n = reversing_next c.loop-h.invariant (omega arith) in
    (n, omega (arith, reversing_le n, faure_below a.b a.k (omega arith) (omega arith)))

pub overflow_mul-r : goal.overflow_mul-r
overflow_mul-r c = omega (arith, (next c).1)

pub overflow_add-r : goal.overflow_add-r
overflow_add-r c = omega (arith, (next c).1)

pub loop-h-preserved : goal.loop-h-preserved
loop-h-preserved c = (next c).0

pub returns : goal.returns
returns c = reversing_end c.loop-h.invariant (omega arith)
