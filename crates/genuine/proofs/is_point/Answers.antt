-- The loop's invariant: the words so far are the point's. Assumes nothing.
use native.Mathlib.Omega.{arith}
use Rattle.points.proofs.ArrayLaws.{axis_at_lem}
use Rattle.fitting.proofs.AnswerLaws.{no, rests, point_none, point_more}
use Rattle.genuine.proofs.is_point.Goals as goal

pub loop-axis-init : goal.loop-axis-init
loop-axis-init c = point_none _ _ _ _ _

pub bounds-s-axis : goal.bounds-s-axis
bounds-s-axis c = omega (arith, c.requires.0.few, c.requires.1.long)

pub overflow_add-n : goal.overflow_add-n
overflow_add-n c =
    omega (arith, c.requires.1.at c.loop-axis.axis)

pub numerator-requires : goal.numerator-requires
numerator-requires c =
    let i = c.loop-axis.axis in
    (axis_at_lem c.requires.0 i (omega arith), omega (arith, c.requires.1.at i))

pub returns-then-s-axis : goal.returns-then-s-axis
returns-then-s-axis c = let i = c.loop-axis.axis in no (λ f. omega (arith, f.word i (omega arith), c.numerator.ensures))

pub loop-axis-preserved : goal.loop-axis-preserved
loop-axis-preserved c = point_more c.loop-axis.invariant (omega (arith, c.numerator.ensures))

pub returns : goal.returns
returns c =
    let l = c.loop-axis in
    rests c.is_zero.ensures (λ z. record { word = λ i h. l.invariant.each i (omega arith); zero_after = z }) (λ f. f.zero_after)
