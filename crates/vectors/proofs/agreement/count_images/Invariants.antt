-- No more entries have agreed than were passed.
use Rattle.std.proofs.Common.{◌≤◌}
use Rattle.vectors.proofs.agreement.count_images.Given as goal

abbrev pub invariant-loop-d : goal.invariant-loop-d
invariant-loop-d l = l.agreed ≤ l.d
