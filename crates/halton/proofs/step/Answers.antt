-- The loop carries over the digits that are the last of the base; y and the answer stay below the denominator. Assumes nothing.
use mathlib.Core.Path.{◌≡◌}
use Prim.Native.Nat.{◌+◌, ◌-◌, ◌*◌, ◌^◌, ◌≤◌, ◌<◌}
use native.Mathlib.Nat.{mod-lt, div-lt_self}
use native.Mathlib.Omega.{arith}
use Rattle.numbers.proofs.DepthLaws.{denominator_lt}
use Rattle.permutation.specs.Permutes.{Permutes}
use Rattle.permutation.specs.Families.{image_of}
use Rattle.permutation.proofs.FamilyLaws.{image_permutes}
use Rattle.halton.specs.Axis.{numerator}
use Rattle.halton.proofs.SteppingLaws.{Stepping, stepping_start, stepping_lt, stepping_share, stepping_up, stepping_carry, stepping_end}
use Rattle.halton.proofs.step.Goals as goal
use Rattle.halton.proofs.step.Goals.{After-image, After-image-in-loop-w, After-image-then-a-b, At-loop-w}

pub loop-w-init : goal.loop-w-init
loop-w-init c = stepping_start _ _ _ c.first_weight-w.ensures c.requires.2

-- the digits of the axis are permuted
permutes : (c : At-loop-w) → Permutes c.args.b (image_of c.args.family c.args.b)
permutes c = image_permutes _ _ (omega arith)

-- y and the answer are below 2^40
small : (c : At-loop-w) →
    let a = c.args in (c.loop-w.y < 2 ^ 40) × (numerator (image_of a.family a.b) a.b (a.n + 1) < 2 ^ 40)
small c =
    let h = stepping_lt c.loop-w.invariant (permutes c) (omega arith) in
    let d = denominator_lt c.args.b (omega arith) (omega arith) in
    (omega (arith, h.0, d), omega (arith, h.1, d))

pub image-requires : goal.image-requires
image-requires c = omega (arith, mod-lt c.loop-w.rest {m = c.args.b} (omega arith))

-- the first digit's share is in y
share : (c : After-image) → c.image.result * c.loop-w.w ≤ c.loop-w.y
share c = let permutes : Permutes c.args.b (image_of c.args.family c.args.b) = image_permutes _ _ (omega arith) in
    rw c.image.ensures (stepping_share c.loop-w.invariant (permutes) (omega arith) (omega arith))

pub overflow_mul-result : goal.overflow_mul-result
overflow_mul-result c = omega (arith, share c, (small (goal.at.overflow_mul-result c).At-loop-w).0)

pub overflow_sub-result : goal.overflow_sub-result
overflow_sub-result c = share c

-- no carry: y with the next digit's share for the first digit's
answer : (c : After-image-then-a-b) →
    let a = c.args in
    let l = c.loop-w in
    l.y - c.image.result * l.w + c.image-then-a-b.result * l.w ≡ numerator (image_of a.family a.b) a.b (a.n + 1)
answer c = let permutes : Permutes c.args.b (image_of c.args.family c.args.b) = image_permutes _ _ (omega arith) in
    rw (c.image.ensures, c.image-then-a-b.ensures) (stepping_up c.loop-w.invariant (permutes) (omega arith) (omega arith) (omega arith))

pub overflow_mul-result-then-a-b : goal.overflow_mul-result-then-a-b
overflow_mul-result-then-a-b c = omega (arith, answer c, (small (goal.at.overflow_mul-result-then-a-b c).At-loop-w).1)

pub overflow_add-result : goal.overflow_add-result
overflow_add-result c = omega (arith, answer c, (small (goal.at.overflow_add-result c).At-loop-w).1)

pub returns-then-a-b : goal.returns-then-a-b
returns-then-a-b c = answer c

pub image-requires-in-loop-w : goal.image-requires-in-loop-w
image-requires-in-loop-w c = omega (arith, mod-lt c.loop-w.rest {m = c.args.b} (omega arith))

share_carried : (c : After-image-in-loop-w) → c.image-in-loop-w.result * c.loop-w.w ≤ c.loop-w.y
share_carried c = let permutes : Permutes c.args.b (image_of c.args.family c.args.b) = image_permutes _ _ (omega arith) in
    rw c.image-in-loop-w.ensures (stepping_share c.loop-w.invariant (permutes) (omega arith) (omega arith))

pub overflow_mul-y : goal.overflow_mul-y
overflow_mul-y c = omega (arith, share_carried c, (small (goal.at.overflow_mul-y c).At-loop-w).0)

pub overflow_sub-y : goal.overflow_sub-y
overflow_sub-y c = share_carried c

pub loop-w-smaller : goal.loop-w-smaller
loop-w-smaller c = div-lt_self (omega arith) (omega arith)

pub loop-w-preserved : goal.loop-w-preserved
loop-w-preserved c =
    rw c.image-in-loop-w.ensures (stepping_carry c.loop-w.invariant (permutes (goal.at.loop-w-preserved c).At-loop-w) (omega arith) (omega arith) (omega arith))

pub returns : goal.returns
returns c = stepping_end c.loop-w.invariant (permutes (goal.at.returns c).At-loop-w) (omega arith) (omega arith)
