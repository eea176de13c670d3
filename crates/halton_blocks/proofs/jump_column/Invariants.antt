-- `halton_blocks::jump_column` meets its contract: the rows up to i are written. Assumes nothing.
use Rattle.columns.specs.Rows.{Column}
use Rattle.halton_blocks.specs.Filling.{halton_from}
use Rattle.halton_blocks.proofs.jump_column.Given as goal

abbrev pub invariant-loop-i : goal.invariant-loop-i
invariant-loop-i l = Column (halton_from l.family l.b l.n) l.lo l.i l.s l.j l.initial.out l.out
