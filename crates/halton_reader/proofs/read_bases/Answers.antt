-- The loop has read the first i bases, and the rest of the reading decides. Assumes nothing.
use mathlib.Core.Path.{sym}
use native.Mathlib.Omega.{arith}
use Rattle.plan.proofs.PartLaws.{long_field}
use Rattle.halton_reader.proofs.BasesLaws.{bases_start, bases_end, bases_short, bases_one, bases_common, bases_next}
use Rattle.halton_reader.proofs.read_bases.Goals as goal

pub loop-i-init : goal.loop-i-init
loop-i-init c = bases_start _ _ (omega arith)

pub returns-then-is_short : goal.returns-then-is_short
returns-then-is_short c =
    bases_short c.loop-i.invariant (omega arith) (omega arith) c.is_short.ensures c.if-is_short.true

pub field-v-requires : goal.field-v-requires
field-v-requires c =
    omega (arith, long_field _ c.loop-i.at 8 c.loop-i.invariant.inside c.is_short.ensures c.if-is_short.false)

pub returns-then-v-eq0 : goal.returns-then-v-eq0
returns-then-v-eq0 c =
    bases_one c.loop-i.invariant (omega arith) (omega arith) c.is_short.ensures c.if-is_short.false c.field-v.ensures.0
    (omega arith)

pub slice_bounds-shares_factor-end : goal.slice_bounds-shares_factor-end
slice_bounds-shares_factor-end c = sym c.loop-i.invariant.size

pub returns-then-shares_factor : goal.returns-then-shares_factor
returns-then-shares_factor c =
    bases_common c.loop-i.invariant (omega arith) (omega arith) c.is_short.ensures c.if-is_short.false c.field-v.ensures.0
    (λ z. omega arith) c.shares_factor.ensures c.if-shares_factor.true

pub loop-i-preserved : goal.loop-i-preserved
loop-i-preserved c =
    bases_next c.loop-i.invariant (omega arith) (omega arith) c.is_short.ensures c.if-is_short.false c.field-v.ensures.0
    (λ z. omega arith) c.shares_factor.ensures c.if-shares_factor.false (omega arith)

pub returns : goal.returns
returns c = bases_end c.loop-i.invariant (omega arith) (omega arith)
