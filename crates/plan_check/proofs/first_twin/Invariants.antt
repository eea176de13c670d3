-- The loop's invariant: the polynomial stands at none of the places so far. Assumes nothing.
use Rattle.plan_check.specs.Found.{NewAt}
use Rattle.plan_check.proofs.FoundLaws.{Before}
use Rattle.plan_check.proofs.first_twin.Given as goal

abbrev pub invariant-loop-j : goal.invariant-loop-j
invariant-loop-j l = Before (NewAt l.polynomials l.n) l.j
