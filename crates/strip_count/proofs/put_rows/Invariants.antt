-- `strip_count::put_rows` meets its contract: the rows of the first i axes are there. Assumes nothing.
use Rattle.strip_count.specs.Rows.{Rowed}
use Rattle.strip_count.proofs.put_rows.Given as goal

abbrev pub invariant-loop-i : goal.invariant-loop-i
invariant-loop-i l = Rowed l.bases l.starts l.w l.order l.rows l.i
