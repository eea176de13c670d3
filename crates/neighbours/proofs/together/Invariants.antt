-- No more steps are counted than were taken.
use Rattle.std.proofs.Common.{◌≤◌}
use Rattle.neighbours.proofs.together.Given as goal

abbrev pub invariant-loop-t : goal.invariant-loop-t
invariant-loop-t l = l.met ≤ l.t
