-- `sobol_marks::tiles` meets its contract: the flags up to i are tested, and each part is a run of the table. Assumes nothing.
use native.Mathlib.Omega.{arith}
use Rattle.columns.proofs.TileLaws.{table_pos, tile_run}
use Rattle.sobol_tables.proofs.TableLaws.{stepped_splits, point_low}
use Rattle.sobol_blocks.specs.Filling.{sobol_from}
use Rattle.marks.proofs.MarkLaws.{marked_none, marked_to, marked_as, marked_join}
use Rattle.sobol_marks.proofs.tiles.Goals as goal

pub loop-i-init : goal.loop-i-init
loop-i-init c = (omega arith, marked_none _ _ _ _)

pub tile_at-part-requires : goal.tile_at-part-requires
tile_at-part-requires c = omega (arith, table_pos c.requires.directions.3 (omega arith))

pub overflow_sub-n : goal.overflow_sub-n
overflow_sub-n c = omega (arith, c.tile_at-part.ensures.back)

pub jump-base-requires : goal.jump-base-requires
jump-base-requires c = c.requires.directions.0.long

pub overflow_cast-base : goal.overflow_cast-base
overflow_cast-base c = omega (arith, point_low c.requires.directions.0 _ c.jump-base.ensures)

pub run-requires : goal.run-requires
run-requires c =
    let e = c.tile_at-part.ensures in
    (omega (arith, e.further), omega (arith, e.in_table), omega (arith, e.in_rows, c.loop-i.invariant.1.same_length))

pub loop-i-smaller : goal.loop-i-smaller
loop-i-smaller c = let e = c.tile_at-part.ensures in omega (arith, e.further, e.in_rows)

pub loop-i-preserved : goal.loop-i-preserved
unfolding sobol_from
loop-i-preserved c =
    let a = c.args in
    let l = c.loop-i in
    let e = c.tile_at-part.ensures in (
      e.in_rows,
      marked_join l.invariant.1
          (marked_as c.run.ensures (sobol_from a.v.now a.n) (tile_run c.requires.directions.3 (stepped_splits a.v.now) a.n e c.jump-base.ensures))
          (omega arith) (omega (arith, e.further)),
    )

pub shape_of-l : goal.shape_of-l
shape_of-l c = c.loop-i.invariant.1.same_length

pub returns : goal.returns
returns c = marked_to c.loop-i.invariant.1 (omega arith)
