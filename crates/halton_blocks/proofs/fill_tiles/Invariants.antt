-- `halton_blocks::fill_tiles` meets its contract: the rows up to i are written, and each part is a run of the table. Assumes nothing.
use Prim.Native.Nat.{◌-◌, ◌≤◌}
use Rattle.columns.specs.Rows.{Column}
use Rattle.tables.specs.Tables.{tabled}
use Rattle.halton_blocks.proofs.fill_tiles.Given as goal

abbrev pub invariant-loop-i : goal.invariant-loop-i
invariant-loop-i l = (l.lo ≤ l.i) × (l.i ≤ l.hi) × Column (tabled l.l l.b l.n) l.lo l.i l.s l.j l.initial.out l.out

abbrev pub decreases-loop-i : goal.decreases-loop-i
decreases-loop-i l = l.hi - l.i
