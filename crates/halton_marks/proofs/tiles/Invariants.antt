-- `halton_marks::tiles` meets its contract: the flags up to i are tested, and each part is a run of the table. Assumes nothing.
use Prim.Native.Nat.{◌-◌, ◌≤◌}
use Rattle.tables.specs.Tables.{tabled}
use Rattle.marks.specs.Marking.{Marked}
use Rattle.halton_marks.proofs.tiles.Given as goal

abbrev pub invariant-loop-i : goal.invariant-loop-i
invariant-loop-i l = (l.i ≤ l.m) × Marked (tabled l.images l.b l.n) l.limit 0 l.i l.initial.l l.l

abbrev pub decreases-loop-i : goal.decreases-loop-i
decreases-loop-i l = l.m - l.i
