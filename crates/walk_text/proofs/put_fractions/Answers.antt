-- After i turns the fractions of the first i axes are put, in at most 28 bytes each. Assumes nothing.
use native.Mathlib.Omega.{arith}
use Rattle.walk_text.proofs.PutLaws.{no_fraction, next_fraction}
use Rattle.points.proofs.ArrayLaws.{axis_at_lem, numerator_at_lt, denominator_at_lt}
use Rattle.walk_text.proofs.put_fractions.Goals as goal

pub loop-i-init : goal.loop-i-init
loop-i-init c =
    let a = c.args in
    (omega arith, no_fraction a.p.family a.p.bases.now a.p.directions.now a.n a.out.now a.start)

pub put_fraction-at-requires : goal.put_fraction-at-requires
put_fraction-at-requires c =
    let i = c.loop-i.i in
    let a = axis_at_lem c.args.p.fit i (omega arith) in
    omega (arith, numerator_at_lt a c.args.n, denominator_at_lt a.base)

pub loop-i-preserved : goal.loop-i-preserved
loop-i-preserved c =
    let a = c.args in
    (omega arith, next_fraction a.p.family a.p.bases.now a.p.directions.now a.n c.loop-i.i (omega arith) c.numerator-x.ensures c.denominator-d.ensures c.loop-i.invariant.1 c.put_fraction-at.ensures.0)
