-- `permutation::kocis_image` meets its contract: each turn takes the next binary digit of the image. Assumes nothing.
use mathlib.Core.Logic.{inl, inr}
use Prim.Native.Nat.{◌+◌, ◌-◌, ◌*◌, ◌/◌, ◌<◌}
use native.Mathlib.Omega.{arith}
use native.Mathlib.Nat.{mul-le-mul_right}
use Rattle.permutation.proofs.DescentLaws.{Descent, Taken, taken_le, taken_few, descent_none, descent_next, descent_fits, descent_few, descent_end}
use Rattle.permutation.proofs.kocis_image.Goals as goal
use Rattle.permutation.proofs.kocis_image.Goals.{Joined-d-c, then-d-c, else-d-c}

pub loop-h-init : goal.loop-h-init
loop-h-init c = descent_none c.args.b c.args.k (omega arith)

pub overflow_add-c : goal.overflow_add-c
overflow_add-c c = omega (arith, descent_few c.loop-h.invariant)

taken : (c : Joined-d-c) → let l = c.loop-h in Taken l.d ((l.h + 1) / 2) c.if-d-c.odd
taken c =
    elim c.if-d-c.branch [
      | then-d-c w ↦ inl (omega arith, w.odd-is)
      | else-d-c w ↦ inr (omega arith, w.odd-is)
    ]

few : (c : Joined-d-c) → c.if-d-c.odd * c.loop-h.p < c.args.b
few c =
    let l = c.loop-h in
    omega (arith, descent_fits l.invariant (omega arith), mul-le-mul_right l.p (taken_few _ _ _ (taken c)))

next : (c : Joined-d-c) →
    let l = c.loop-h in
    let a = c.args in
    let u = c.if-d-c.odd in
    Descent a.b a.k ((l.h + 1 - u) / 2) (l.d - u * ((l.h + 1) / 2)) (l.r + u * l.p) (2 * l.p)
next c = descent_next c.loop-h.invariant (omega arith) c.if-d-c.odd (taken c) (omega arith) (omega arith) (omega arith) (omega arith)

pub overflow_mul-d : goal.overflow_mul-d
overflow_mul-d c = omega (arith, taken_le _ _ _ (taken (goal.at.overflow_mul-d c).Joined-d-c), descent_few c.loop-h.invariant)

pub overflow_sub-d : goal.overflow_sub-d
overflow_sub-d c = omega (arith, taken_le _ _ _ (taken (goal.at.overflow_sub-d c).Joined-d-c))

pub overflow_mul-r : goal.overflow_mul-r
overflow_mul-r c = omega (arith, few (goal.at.overflow_mul-r c).Joined-d-c)

pub overflow_add-r : goal.overflow_add-r
overflow_add-r c = omega (arith, few (goal.at.overflow_add-r c).Joined-d-c, (next (goal.at.overflow_add-r c).Joined-d-c).room)

pub overflow_add-h : goal.overflow_add-h
overflow_add-h c = omega (arith, descent_few c.loop-h.invariant)

pub overflow_sub-h : goal.overflow_sub-h
overflow_sub-h c = omega (arith, taken_few _ _ _ (taken (goal.at.overflow_sub-h c).Joined-d-c))

pub overflow_mul-p : goal.overflow_mul-p
overflow_mul-p c = omega (arith, descent_fits c.loop-h.invariant (omega arith))

pub loop-h-preserved : goal.loop-h-preserved
loop-h-preserved c =
    descent_next c.loop-h.invariant (omega arith) c.if-d-c.odd (taken (goal.at.loop-h-preserved c).Joined-d-c) (omega arith) (omega arith) (omega arith) (omega arith)

pub returns : goal.returns
returns c = let s = c.loop-h.invariant in descent_end s (omega (arith, s.below))
