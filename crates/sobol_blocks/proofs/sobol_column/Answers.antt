-- `sobol_blocks::sobol_column` meets its contract: the rows up to i are written, and the local number is that of the last one. Assumes nothing.
use mathlib.Core.Path.{◌≡◌, ap, ◌∙◌}
use Prim.Native.Nat.{◌+◌, ◌-◌}
use native.Mathlib.Omega.{arith}
use Rattle.sobol.specs.Stepping.{stepped}
use Rattle.sobol_blocks.specs.Filling.{sobol_from}
use Rattle.columns.proofs.ColumnLaws.{column_none, column_more, row_end}
use Rattle.sobol_blocks.proofs.sobol_column.Goals as goal

pub loop-i-init : goal.loop-i-init
unfolding sobol_from
loop-i-init c =
    let a = c.args in
    let e : a.n + a.lo ≡ a.n + (a.lo + 1) - 1 = omega arith in (
      c.jump-x.ensures ∙ ap (stepped a.v.now) e,
      column_more (column_none _ _ _ _ _) _ (omega arith) (omega arith) (omega (arith, row_end a.lo a.hi a.s a.j (omega arith) (omega arith))) c.jump-x.ensures,
    )

pub loop-i-preserved : goal.loop-i-preserved
unfolding sobol_from
loop-i-preserved c =
    let a = c.args in
    let l = c.loop-i in
    let e : a.n + l.i - 1 + 1 ≡ a.n + (l.i + 1) - 1 = omega arith in
    let f : a.n + l.i - 1 + 1 ≡ a.n + l.i = omega arith in (
      c.step-x.ensures ∙ ap (stepped a.v.now) e,
      column_more l.invariant.1 _ (omega arith) (omega arith) (omega (arith, row_end l.i a.hi a.s a.j (omega arith) (omega arith))) (c.step-x.ensures ∙ ap (stepped a.v.now) f),
    )
