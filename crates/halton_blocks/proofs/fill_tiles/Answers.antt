-- `halton_blocks::fill_tiles` meets its contract: the rows up to i are written, and each part is a run of the table. Assumes nothing.
use mathlib.Core.Path.{◌≡◌, ◌∙◌}
use Prim.Native.Nat.{◌+◌, ◌-◌}
use native.Mathlib.Nat.{mul-le-mul_right}
use native.Mathlib.Omega.{arith}
use Rattle.halton.specs.Axis.{numerator}
use Rattle.halton.specs.Images.{image_in}
use Rattle.halton.proofs.ImageLaws.{numerator_by_table}
use Rattle.columns.proofs.ColumnLaws.{column_none, column_to, column_join, column_as}
use Rattle.columns.proofs.TileLaws.{table_pos}
use Rattle.tables.specs.Tables.{tabled}
use Rattle.tables.proofs.TableLaws.{tabled_run, entry_below, point_below}
use Rattle.halton_blocks.proofs.fill_tiles.Goals as goal
use Rattle.halton_blocks.proofs.fill_tiles.Goals.{After-jump-first}

pub loop-i-init : goal.loop-i-init
loop-i-init c = (omega arith, omega arith, column_none _ _ _ _ _)

pub tile_at-part-requires : goal.tile_at-part-requires
tile_at-part-requires c = omega (arith, table_pos c.requires.ready.0.table (omega arith))

pub overflow_sub-n : goal.overflow_sub-n
overflow_sub-n c = omega (arith, c.tile_at-part.ensures.back)

pub jump-first-requires : goal.jump-first-requires
jump-first-requires c = (omega arith, omega arith, omega arith, c.requires.ready.0.digits)

-- the part's one number, by the table of images
number : (c : After-jump-first) →
    let a = c.args in
    c.jump-first.result.numerator ≡ numerator (image_in a.l.now) a.b (a.n + c.loop-i.i - c.tile_at-part.result.place)
number c =
    let a = c.args in
    c.jump-first.ensures ∙ numerator_by_table 0 a.b a.l.now (omega arith) _

pub run-requires : goal.run-requires
run-requires c =
    let a = c.args in
    let e = c.tile_at-part.ensures in record {
      base_bound = (
        rw (number (goal.at.run-requires c).After-jump-first) (point_below c.requires.ready.0.digits (omega arith) (omega arith) _),
        omega (arith, e.further),
        omega (arith, e.in_table),
        omega arith,
        omega (arith, mul-le-mul_right {m = c.tile_at-part.result.end} {n = a.hi} a.s e.in_rows),
      );
      by_index = λ x h. entry_below c.requires.ready.0.digits (omega arith) c.requires.ready.0.table (omega arith) x (omega (arith, e));
    }

pub loop-i-smaller : goal.loop-i-smaller
loop-i-smaller c = let e = c.tile_at-part.ensures in omega (arith, e.further, e.in_rows)

pub loop-i-preserved : goal.loop-i-preserved
loop-i-preserved c =
    let a = c.args in
    let l = c.loop-i in
    let e = c.tile_at-part.ensures in (
      omega (arith, e.further),
      e.in_rows,
      column_join l.invariant.2
          (column_as c.run.ensures (tabled a.l.now a.b a.n) (tabled_run a.l.now c.requires.ready.0.digits (omega arith) c.requires.ready.0.table a.n e (number (goal.at.loop-i-preserved c).After-jump-first)))
          (omega arith) (omega (arith, e.further)) (omega arith),
    )

pub shape_of-out : goal.shape_of-out
shape_of-out c = c.loop-i.invariant.2.same_length

pub returns : goal.returns
returns c = column_to c.loop-i.invariant.2 (omega arith)
