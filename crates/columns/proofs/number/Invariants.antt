-- `columns::number` meets its contract: the first i rows are numbered. Assumes nothing.
use Prim.Native.Nat.{◌+◌}
use Rattle.columns.specs.Rows.{Column}
use Rattle.columns.proofs.number.Given as goal

abbrev pub invariant-loop-i : goal.invariant-loop-i
invariant-loop-i l = Column (◌+◌ l.n) 0 l.i l.s 0 l.initial.out l.out
