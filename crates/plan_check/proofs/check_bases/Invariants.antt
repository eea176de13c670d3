-- The loop's invariant: the bases so far are valid. Assumes nothing.
use lib.ListN.{take}
use Rattle.plan.specs.Plan.{ValidBases}
use Rattle.plan_check.proofs.check_bases.Given as goal

abbrev pub invariant-loop-i : goal.invariant-loop-i
invariant-loop-i l = ValidBases (take l.i l.bases)
