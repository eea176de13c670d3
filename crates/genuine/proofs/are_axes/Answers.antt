-- The loop's invariant: the axes so far fit. Assumes nothing.
use mathlib.Core.Path.{◌≡◌}
use native.Mathlib.Omega.{arith}
use Rattle.fitting.proofs.AnswerLaws.{yes, failed, no_axes, axis_more, part_is, part_long}
use Rattle.genuine.proofs.are_axes.Goals as goal

pub loop-i-init : goal.loop-i-init
loop-i-init c = no_axes _ _

pub returns-then-not-is_new : goal.returns-then-not-is_new
returns-then-not-is_new c =
    let i = c.loop-i.i in
    failed c.is_new.ensures c.if-not-is_new.true (λ f. record { each = λ j h. f.distinct i j h (omega arith) })

pub is_axis-requires : goal.is_axis-requires
is_axis-requires c =
    part_long c.args.directions.now c.loop-i.i (omega arith) (omega arith)

pub returns-then-not-is_axis : goal.returns-then-not-is_axis
returns-then-not-is_axis c =
    failed c.is_axis.ensures c.if-not-is_axis.true
    (λ f. rw (part_is c.args.directions.now c.loop-i.i) (f.axis c.loop-i.i (omega arith)))

pub loop-i-preserved : goal.loop-i-preserved
loop-i-preserved c =
    let new = c.is_new.ensures.0 c.if-not-is_new.false in
    let one = c.is_axis.ensures.0 c.if-not-is_axis.false in
    axis_more c.loop-i.invariant new (rw (part_is c.args.directions.now c.loop-i.i) at one)

pub returns : goal.returns
returns c =
    let l = c.loop-i in
    let e : l.i ≡ c.args.n = omega arith in
    yes (rw e at l.invariant)
