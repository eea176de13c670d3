-- `halton_blocks::run` meets its contract: the rows up to i are written. Assumes nothing.
use Prim.Native.Nat.{◌+◌}
use Rattle.columns.specs.Rows.{Column}
use Rattle.columns.specs.Tiles.{tile_of}
use Rattle.halton_blocks.proofs.run.Given as goal

abbrev pub invariant-loop-i : goal.invariant-loop-i
invariant-loop-i l = Column (tile_of ◌+◌ l.base l.t l.lo l.r) l.lo l.i l.s l.j l.initial.out l.out
