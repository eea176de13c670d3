-- Where fewer than eight bits are left they are one field, whose value is 0 only if all of them are. Assumes nothing.
use Prim.Native.Nat.{◌+◌, ◌*◌, ◌<◌}
use native.Mathlib.Omega.{arith}
use lib.ListN.{length}
use Rattle.reader.proofs.PlanLaws.{tail_long, tail_near, tail_read}
use Rattle.reader.proofs.bad_tail.Goals as goal
use Rattle.reader.proofs.bad_tail.Goals.{Then-is_short}

near : (c : Then-is_short) → let a = c.args in 8 * length a.bytes.now < a.at + 8
near c =
    let a = c.args in
    tail_near a.bytes.now a.at c.is_short.ensures c.if-is_short.true

pub overflow_mul-w : goal.overflow_mul-w
overflow_mul-w c = omega (arith, near c)

pub field-requires : goal.field-requires
field-requires c = omega (arith, near c)

pub returns-then-is_short : goal.returns-then-is_short
returns-then-is_short c =
    let a = c.args in
    tail_read a.bytes.now a.at c.is_short.ensures c.if-is_short.true _ (omega arith) c.field.ensures.0

pub returns-else-is_short : goal.returns-else-is_short
returns-else-is_short c =
    let a = c.args in
    tail_long a.bytes.now a.at c.is_short.ensures c.if-is_short.false
