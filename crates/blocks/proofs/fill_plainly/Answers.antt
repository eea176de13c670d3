-- `blocks::fill_plainly` meets its contract: the points of the first i rows are written. Assumes nothing.
use native.Mathlib.Nat.{mul-le-mul_right}
use native.Mathlib.Omega.{arith}
use Prim.Native.Nat.{◌+◌, ◌<◌, ◌≤◌}
use Rattle.columns.proofs.ColumnLaws.{columns_empty, columns_join, columns_rows}
use Rattle.points.proofs.RunLaws.{within_less}
use Rattle.blocks.proofs.fill_plainly.Goals as goal
use Rattle.blocks.proofs.fill_plainly.Goals.{After-min-end}

-- a chunk is not empty
further : (c : After-min-end) → c.loop-i.i < c.min-end.result
further c = omega arith

pub loop-i-init : goal.loop-i-init
loop-i-init c = (omega arith, columns_empty _ _ _ _ _ _)

pub overflow_add-i : goal.overflow_add-i
overflow_add-i c = omega (arith, c.requires.1.at 0)

pub fill_rows-requires : goal.fill_rows-requires
fill_rows-requires c =
    let a = c.args in
    let l = c.loop-i in
    let e : c.min-end.result ≤ a.k = omega arith in (
      c.requires.0,
      within_less c.requires.1 e,
      omega (arith, further (goal.at.fill_rows-requires c).After-min-end),
      omega (arith, l.invariant.1.same_length, mul-le-mul_right {m = c.min-end.result} {n = a.k} (a.lead + a.p.axes) e),
    )

pub loop-i-smaller : goal.loop-i-smaller
loop-i-smaller c = omega (arith, further (goal.at.loop-i-smaller c).After-min-end)

pub loop-i-preserved : goal.loop-i-preserved
loop-i-preserved c =
    let l = c.loop-i in
    (omega arith, columns_join l.invariant.1 c.fill_rows.ensures (omega arith) (omega (arith, further (goal.at.loop-i-preserved c).After-min-end)) (omega arith))

pub shape_of-out : goal.shape_of-out
shape_of-out c = c.loop-i.invariant.1.same_length

pub returns : goal.returns
returns c = columns_rows c.loop-i.invariant.1 (omega arith)
