-- The loop's invariant: the axes so far are valid. Assumes nothing.
use mathlib.Core.Path.{◌≡◌, refl}
use native.Mathlib.Omega.{arith}
use Rattle.std.proofs.lemmas.Result.{err_from_is_err_and}
use Rattle.plan.specs.Answer.{axes_of}
use Rattle.plan.proofs.ValidLaws.{no_axes}
use Rattle.plan_check.specs.Found.{AxesFound}
use Rattle.plan_check.proofs.FoundLaws.{axis_more}
use Rattle.plan_check.proofs.check_axes.Goals as goal

pub loop-i-init : goal.loop-i-init
unfolding axes_of
loop-i-init c = no_axes

pub returns-in_err-check_axis : goal.returns-in_err-check_axis
returns-in_err-check_axis c =
    let l = c.loop-i in
    let wrong = c.in_err-check_axis.ensures in
    let p = err_from_is_err_and c.from_residual.result c.from_residual.ensures.1 in
    rw (p.1, p.2) (AxesFound.axis l.i (omega arith) l.invariant wrong.0 wrong.1, wrong.1)

pub loop-i-preserved : goal.loop-i-preserved
loop-i-preserved c =
    let l = c.loop-i in
    axis_more _ _ l.i (omega arith) (omega arith) l.invariant c.in_ok-check_axis.ensures refl

pub returns : goal.returns
returns c =
    let l = c.loop-i in
    let e : l.i ≡ c.args.n = omega arith in
    AxesFound.sound (rw e at l.invariant)
