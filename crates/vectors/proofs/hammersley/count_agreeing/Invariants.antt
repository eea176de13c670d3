-- No more rows have agreed than were passed.
use Rattle.std.proofs.Common.{◌≤◌}
use Rattle.vectors.proofs.hammersley.count_agreeing.Given as goal

abbrev pub invariant-loop-row : goal.invariant-loop-row
invariant-loop-row l = l.agreed ≤ l.row-index
