-- The loop's invariant: the m's so far are odd and small enough. Assumes nothing.
use Rattle.plan_check.specs.Found.{GivenAt}
use Rattle.plan_check.proofs.FoundLaws.{Before}
use Rattle.plan_check.proofs.first_wrong.Given as goal

abbrev pub invariant-loop-k : goal.invariant-loop-k
invariant-loop-k l = Before (GivenAt l.ms l.i) l.k
