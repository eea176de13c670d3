-- `columns::number` meets its contract: the first i rows are numbered. Assumes nothing.
use mathlib.Core.Path.{◌≡◌, refl}
use Prim.Native.Nat.{◌+◌, ◌*◌}
use native.Mathlib.Omega.{arith}
use Rattle.columns.proofs.ColumnLaws.{column_more, row_end}
use Rattle.columns.proofs.number.Goals as goal

pub loop-i-preserved : goal.loop-i-preserved
loop-i-preserved c =
    let a = c.args in
    let l = c.loop-i in
    let e : l.i * a.s + 0 ≡ l.i * a.s = omega arith in
    rw e at (column_more l.invariant (a.n + l.i) (omega arith) (omega arith) (omega (arith, row_end l.i a.k a.s 0 (omega arith) (omega arith))) refl)
