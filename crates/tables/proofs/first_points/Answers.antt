-- `tables::first_points` meets its contract: the entries up to d are points. Assumes nothing.
use Prim.Native.Nat.{◌*◌, ◌^◌, ◌<◌}
use native.Mathlib.Omega.{arith}
use Rattle.numbers.proofs.ListedLaws.{begins_more, begins_less}
use Rattle.halton.specs.Images.{image_in}
use Rattle.tables.proofs.TableLaws.{point_below, first_digit, table_first}
use Rattle.tables.proofs.first_points.Goals as goal
use Rattle.tables.proofs.first_points.Goals.{After-shared_slice_known-1}

-- the next entry fits
small : (c : After-shared_slice_known-1) →
    let a = c.args in
    image_in a.l.now c.loop-d.d * a.w < 2 ^ 40
small c =
    rw (first_digit c.requires.3 (omega arith) c.args.w c.loop-d.d c.requires.5 (omega arith)) (point_below c.requires.3 (omega arith) (omega arith) _)

pub overflow_mul-t : goal.overflow_mul-t
overflow_mul-t c = omega (arith, small c)

pub loop-d-preserved : goal.loop-d-preserved
loop-d-preserved c =
    let l = c.loop-d in
    begins_more l.invariant (omega arith) (first_digit c.requires.3 (omega arith) c.args.w l.d c.requires.5 (omega arith))

pub returns : goal.returns
returns c =
    let a = c.args in
    let l = c.loop-d in
    (table_first (begins_less l.invariant a.b (omega arith)), omega arith)
