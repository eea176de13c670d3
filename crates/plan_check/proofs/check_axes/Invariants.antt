-- The loop's invariant: the axes so far are valid. Assumes nothing.
use Rattle.plan.specs.Plan.{ValidAxes}
use Rattle.plan.specs.Answer.{axes_of}
use Rattle.plan_check.proofs.check_axes.Given as goal

abbrev pub invariant-loop-i : goal.invariant-loop-i
invariant-loop-i l = ValidAxes (axes_of l.polynomials l.ms l.i)
