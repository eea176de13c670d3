-- `blocks::fill_by_tables` meets its contract: the points of the rows up to `row` are written. Assumes nothing.
use native.Mathlib.Nat.{mul-le-mul_right}
use native.Mathlib.Omega.{arith}
use Prim.Native.Nat.{◌+◌, ◌<◌, ◌≤◌}
use borrow.Author.Rules.{rules}
use Rattle.columns.proofs.ColumnLaws.{columns_empty, columns_as, columns_join, columns_rows}
use Rattle.points.specs.Arrays.{of_axis, numerators_from}
use Rattle.points.proofs.RunLaws.{within_less}
use Rattle.blocks.proofs.EntryLaws.{bases_of, all_ready, all_points}
use Rattle.blocks.proofs.fill_by_tables.Goals as goal
use Rattle.blocks.proofs.fill_by_tables.Goals.{After-min-end}

-- a chunk is not empty
further : (c : After-min-end) → c.loop-row.row < c.min-end.result
further c = omega arith

pub make_all_tables-sizes-requires : goal.make_all_tables-sizes-requires
make_all_tables-sizes-requires c =
    (bases_of c.args.p.fit c.requires.3, search rules, search rules)

pub loop-row-init : goal.loop-row-init
loop-row-init c = (omega arith, columns_empty _ _ _ _ _ _)

pub overflow_add-row : goal.overflow_add-row
overflow_add-row c = omega (arith, c.requires.1.at 0)

pub table_rows-requires : goal.table_rows-requires
table_rows-requires c =
    let a = c.args in
    let l = c.loop-row in
    let e : c.min-end.result ≤ a.k = omega arith in record {
      axes_bound = (c.args.p.fit.few, c.args.p.fit.bases_long, search rules, search rules, search rules);
      all_ready = (
        all_ready c.make_all_tables-sizes.ensures,
        c.requires.0,
        within_less c.requires.1 e,
        omega (arith, further (goal.at.table_rows-requires c).After-min-end),
        omega (arith, l.invariant.1.same_length, mul-le-mul_right {m = c.min-end.result} {n = a.k} (a.lead + a.p.axes) e),
      );
    }

pub loop-row-smaller : goal.loop-row-smaller
loop-row-smaller c = omega (arith, further (goal.at.loop-row-smaller c).After-min-end)

pub loop-row-preserved : goal.loop-row-preserved
loop-row-preserved c =
    let l = c.loop-row in
    let made = c.make_all_tables-sizes.ensures in
    let a = c.args in
    let f = numerators_from a.p.family a.p.bases.now a.p.directions.now (of_axis a.ns.now) in
    let rows = columns_as c.table_rows.ensures f (all_points made c.requires.3 a.p.directions.now (of_axis a.ns.now)) in
    (omega arith, columns_join l.invariant.1 rows (omega arith) (omega (arith, further (goal.at.loop-row-preserved c).After-min-end)) (omega arith))

pub shape_of-out : goal.shape_of-out
shape_of-out c = c.loop-row.invariant.1.same_length

pub returns : goal.returns
returns c = columns_rows c.loop-row.invariant.1 (omega arith)
