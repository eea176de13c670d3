-- `images::double_part` meets its contract: the numbers before place k are doubled, and no number that is still to be read is touched. Assumes nothing.
use mathlib.Core.Path.{◌≡◌}
use Prim.Native.Nat.{◌<◌}
use native.Mathlib.Omega.{arith}
use lib.ListN.{get_or}
use Rattle.images.proofs.DoubledLaws.{doubled_read, doubled_more}
use Rattle.images.proofs.double_part.Goals as goal
use Rattle.images.proofs.double_part.Goals.{In-loop-k}

-- the number that a turn reads
number : (c : In-loop-k) →
    let l = c.loop-k in (get_or l.l l.k 0 ≡ get_or c.args.l.now l.k 0) × (get_or l.l l.k 0 < 128)
number c =
    let l = c.loop-k in
    let e = doubled_read l.invariant (omega arith) in
    (e, omega (arith, e, c.requires.4.at l.k (omega arith) (omega arith)))

pub overflow_mul-lower : goal.overflow_mul-lower
overflow_mul-lower c = omega (arith, number (goal.at.overflow_mul-lower c).In-loop-k)

pub overflow_add-upper : goal.overflow_add-upper
overflow_add-upper c = omega (arith, number (goal.at.overflow_add-upper c).In-loop-k)

pub loop-k-preserved : goal.loop-k-preserved
loop-k-preserved c =
    let l = c.loop-k in
    let e = (number (goal.at.loop-k-preserved c).In-loop-k).0 in
    doubled_more l.invariant (omega arith) (omega arith) (omega arith) (omega arith) (omega arith) (omega (arith, e)) (omega (arith, e))
