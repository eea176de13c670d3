-- The body is the bases, and after them the tail decides. Assumes nothing.
use native.Mathlib.Omega.{arith}
use Rattle.reader.proofs.PlanLaws.{halton_stop, halton_tail, halton_end}
use Rattle.reader.proofs.read_halton.Goals as goal

pub returns-in-Err : goal.returns-in-Err
returns-in-Err c = rw (halton_stop _ _ _ c.in-Err.ensures) c.no_plan.ensures

pub returns-then-bad_tail : goal.returns-then-bad_tail
returns-then-bad_tail c =
    rw (halton_tail _ _ _ c.in-Ok.ensures c.bad_tail.ensures c.if-bad_tail.true) c.no_plan-then-bad_tail.ensures

pub returns : goal.returns
returns c =
    halton_end _ _ _ c.in-Ok.ensures c.bad_tail.ensures c.if-bad_tail.false (omega arith)
