-- The count that was answered fits a row. Assumes nothing.
use native.Mathlib.Omega.{arith}
use Rattle.weights.proofs.count.Goals as goal

pub volume-requires : goal.volume-requires
volume-requires c =
    let r = c.counted-r in
    let a = r.ensures (omega arith) in
    (a.cuts, a.window)

pub put_row-next-requires : goal.put_row-next-requires
put_row-next-requires c =
    let r = c.counted-r in
    let a = r.ensures (omega arith) in
    (a.inside, a.few)
