-- The loop has read the first i of the m's, and the rest of the reading decides. Assumes nothing.
use Prim.Native.Nat.{◌+◌}
use native.Mathlib.Omega.{arith}
use Rattle.plan.proofs.PartLaws.{long_field}
use Rattle.sobol_reader.proofs.MsLaws.{ms_start, ms_end, ms_short, ms_even, ms_next}
use Rattle.sobol_reader.proofs.read_ms.Goals as goal

pub loop-i-init : goal.loop-i-init
loop-i-init c = ms_start _ _ _ (omega arith)

pub returns-then-is_short : goal.returns-then-is_short
returns-then-is_short c =
    ms_short c.loop-i.invariant (omega arith) (omega arith) c.is_short.ensures c.if-is_short.true

pub field-m-requires : goal.field-m-requires
field-m-requires c =
    omega (arith, long_field _ c.loop-i.at (c.loop-i.i + 1) c.loop-i.invariant.inside c.is_short.ensures c.if-is_short.false)

pub returns-then-m-eq0 : goal.returns-then-m-eq0
returns-then-m-eq0 c =
    ms_even c.loop-i.invariant (omega arith) (omega arith) c.is_short.ensures c.if-is_short.false c.field-m.ensures.0
    (omega arith)

pub loop-i-preserved : goal.loop-i-preserved
loop-i-preserved c =
    ms_next c.loop-i.invariant (omega arith) (omega arith) c.is_short.ensures c.if-is_short.false c.field-m.ensures.0
    (λ z. omega arith)

pub returns : goal.returns
returns c = ms_end c.loop-i.invariant (omega arith) (omega arith)
