-- `halton_marks::tiles` meets its contract: the flags up to i are tested, and each part is a run of the table. Assumes nothing.
use mathlib.Core.Path.{◌≡◌, ◌∙◌}
use Prim.Native.Nat.{◌+◌, ◌-◌}
use native.Mathlib.Omega.{arith}
use Rattle.halton.specs.Axis.{numerator}
use Rattle.halton.specs.Images.{image_in}
use Rattle.halton.proofs.ImageLaws.{numerator_by_table}
use Rattle.columns.proofs.TileLaws.{table_pos}
use Rattle.tables.specs.Tables.{tabled}
use Rattle.tables.proofs.TableLaws.{tabled_run}
use Rattle.marks.proofs.MarkLaws.{marked_none, marked_to, marked_as, marked_join}
use Rattle.halton_marks.proofs.tiles.Goals as goal
use Rattle.halton_marks.proofs.tiles.Goals.{After-jump-first}

pub loop-i-init : goal.loop-i-init
loop-i-init c = (omega arith, marked_none _ _ _ _)

pub tile_at-part-requires : goal.tile_at-part-requires
tile_at-part-requires c = omega (arith, table_pos c.requires.ready.0.table (omega arith))

pub overflow_sub-n : goal.overflow_sub-n
overflow_sub-n c = omega (arith, c.tile_at-part.ensures.back)

pub jump-first-requires : goal.jump-first-requires
jump-first-requires c = (omega arith, omega arith, omega arith, c.requires.ready.0.digits)

-- the part's one number, by the table of images
number : (c : After-jump-first) →
    let a = c.args in
    c.jump-first.result.numerator ≡ numerator (image_in a.images.now) a.b (a.n + c.loop-i.i - c.tile_at-part.result.place)
number c =
    let a = c.args in
    c.jump-first.ensures ∙ numerator_by_table 0 a.b a.images.now (omega arith) _

pub run-requires : goal.run-requires
run-requires c =
    let e = c.tile_at-part.ensures in
    (omega (arith, e.further), omega (arith, e.in_table), omega (arith, e.in_rows, c.loop-i.invariant.1.same_length))

pub loop-i-smaller : goal.loop-i-smaller
loop-i-smaller c = let e = c.tile_at-part.ensures in omega (arith, e.further, e.in_rows)

pub loop-i-preserved : goal.loop-i-preserved
loop-i-preserved c =
    let a = c.args in
    let l = c.loop-i in
    let e = c.tile_at-part.ensures in (
      e.in_rows,
      marked_join l.invariant.1
          (marked_as c.run.ensures (tabled a.images.now a.b a.n) (tabled_run a.images.now c.requires.ready.0.digits (omega arith) c.requires.ready.0.table a.n e (number (goal.at.loop-i-preserved c).After-jump-first)))
          (omega arith) (omega (arith, e.further)),
    )

pub shape_of-l : goal.shape_of-l
shape_of-l c = c.loop-i.invariant.1.same_length

pub returns : goal.returns
returns c = marked_to c.loop-i.invariant.1 (omega arith)
