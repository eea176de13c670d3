-- `tables::spread` meets its contract: the first i entries are copied. Assumes nothing.
use mathlib.Core.Path.{◌≡◌, ap, ◌∙◌}
use Prim.Native.Nat.{ℕ, ◌+◌, ◌-◌}
use native.Mathlib.Omega.{arith}
use lib.ListN.{get_or}
use native.Mathlib.Nat.{mul-one}
use Rattle.columns.specs.Tiles.{tile_of}
use Rattle.columns.proofs.ColumnLaws.{column_more}
use Rattle.tables.proofs.spread.Goals as goal

pub loop-i-preserved : goal.loop-i-preserved
unfolding tile_of
loop-i-preserved c =
    let a = c.args in
    let l = c.loop-i in
    let e : get_or l.t l.i 0 ≡ get_or a.t.now (l.i - 0 + 0) 0 =
    l.invariant.kept l.i (λ k h q e. omega arith) ∙ ap (λ (y : ℕ). get_or a.t.now y 0) {x = l.i} {y = l.i - 0 + 0} (omega arith) in
    rw (mul-one l.i) at (column_more l.invariant (a.a + get_or l.t l.i 0) (omega arith) (omega arith) (omega arith) (ap (λ (y : ℕ). a.a + y) e))
