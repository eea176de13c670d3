-- `sobol_marks::run` meets its contract: the flags up to i are tested. Assumes nothing.
use lib.Bits.{bit_xor}
use Rattle.columns.specs.Tiles.{tile_of}
use Rattle.marks.specs.Marking.{Marked}
use Rattle.sobol_marks.proofs.run.Given as goal

abbrev pub invariant-loop-i : goal.invariant-loop-i
invariant-loop-i l = Marked (tile_of bit_xor l.base l.t l.lo l.r) l.limit l.lo l.i l.initial.l l.l
