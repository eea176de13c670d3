-- `sobol_marks::tiles` meets its contract: the flags up to i are tested, and each part is a run of the table. Assumes nothing.
use Prim.Native.Nat.{◌-◌, ◌≤◌}
use Rattle.sobol_blocks.specs.Filling.{sobol_from}
use Rattle.marks.specs.Marking.{Marked}
use Rattle.sobol_marks.proofs.tiles.Given as goal

abbrev pub invariant-loop-i : goal.invariant-loop-i
invariant-loop-i l = (l.i ≤ l.m) × Marked (sobol_from l.v l.n) l.limit 0 l.i l.initial.l l.l

abbrev pub decreases-loop-i : goal.decreases-loop-i
decreases-loop-i l = l.m - l.i
