-- `blocks::table_rows` meets its contract: the columns of the first i axes are written. Assumes nothing.
use mathlib.Core.Path.{◌≡◌, refl}
use Prim.Native.Nat.{◌+◌, ◌-◌, ◌*◌}
use native.Mathlib.Omega.{arith}
use borrow.Author.Rules.{rules}
use Rattle.columns.proofs.ColumnLaws.{column_as, columns_more}
use Rattle.points.specs.Arrays.{of_axis}
use Rattle.blocks.specs.Tables.{tabled_at}
use Rattle.blocks.proofs.table_rows.Goals as goal

pub fill_tiles-requires-clause-ready : goal.fill_tiles-requires-clause-ready
fill_tiles-requires-clause-ready c =
    let i = c.loop-i.i in
    let k : 256 * i + 256 - 256 * i ≡ 256 = omega arith in
    (rw k (c.requires.all_ready.0.at i (omega arith)), search rules, search rules)

pub loop-i-preserved : goal.loop-i-preserved
unfolding tabled_at
loop-i-preserved c =
    let a = c.args in
    let l = c.loop-i in
    let f = tabled_at a.bases.now a.images.now (of_axis a.ns.now) in
    let k : 256 * l.i + 256 - 256 * l.i ≡ 256 = omega arith in
    columns_more l.invariant (column_as c.fill_tiles.ensures (f l.i) (λ x h q. rw k refl)) (omega arith)
