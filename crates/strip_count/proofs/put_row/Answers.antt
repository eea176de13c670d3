-- `strip_count::put_row` meets its contract. Assumes nothing.
use native.Mathlib.Omega.{arith}
use lib.ListN.{length-set}
use Rattle.strip_count.proofs.RowLaws.{row_put}
use Rattle.strip_count.proofs.put_row.Goals as goal

pub bounds-rows-i-2 : goal.bounds-rows-i-2
bounds-rows-i-2 c = simp length-set (omega arith)

pub bounds-rows-i-3 : goal.bounds-rows-i-3
bounds-rows-i-3 c = simp length-set (omega arith)

pub bounds-rows-i-4 : goal.bounds-rows-i-4
bounds-rows-i-4 c = simp length-set (omega arith)

pub bounds-rows-i-5 : goal.bounds-rows-i-5
bounds-rows-i-5 c = simp length-set (omega arith)

pub returns : goal.returns
returns c = let a = c.args in row_put a.rows.now a.i a.base a.start a.u a.q (omega arith)
