-- The body is the axes, and after them the tail decides. Assumes nothing.
use Rattle.reader.proofs.PlanLaws.{sobol_stop, sobol_tail, sobol_end}
use Rattle.reader.proofs.read_sobol.Goals as goal

pub returns-in-Err : goal.returns-in-Err
returns-in-Err c = rw (sobol_stop _ _ c.in-Err.ensures) c.no_plan.ensures

pub returns-then-bad_tail : goal.returns-then-bad_tail
returns-then-bad_tail c =
    rw (sobol_tail _ _ c.in-Ok.ensures c.bad_tail.ensures c.if-bad_tail.true) c.no_plan-then-bad_tail.ensures

pub returns : goal.returns
returns c = sobol_end _ _ c.in-Ok.ensures c.bad_tail.ensures c.if-bad_tail.false
