-- `tables::spread` meets its contract: the first i entries are copied. Assumes nothing.
use Prim.Native.Nat.{◌+◌}
use Rattle.columns.specs.Rows.{Column}
use Rattle.columns.specs.Tiles.{tile_of}
use Rattle.tables.proofs.spread.Given as goal

abbrev pub invariant-loop-i : goal.invariant-loop-i
invariant-loop-i l = Column (tile_of ◌+◌ l.a l.initial.t 0 0) 0 l.i 1 l.at l.initial.t l.t
