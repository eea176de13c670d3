-- At most 32 windows are kept.
use Rattle.std.proofs.Common.{◌≤◌}
use Rattle.picture.proofs.plot.Given as goal

abbrev pub invariant-loop : goal.invariant-loop
invariant-loop l = l.p.windows ≤ 32
