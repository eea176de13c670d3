-- The loop's invariant: b is coprime to the bases so far. Assumes nothing.
use Rattle.plan_check.specs.Found.{CoprimeAt}
use Rattle.plan_check.proofs.FoundLaws.{Before}
use Rattle.plan_check.proofs.first_shared.Given as goal

abbrev pub invariant-loop-j : goal.invariant-loop-j
invariant-loop-j l = Before (CoprimeAt l.b l.bases) l.j
