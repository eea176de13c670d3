-- `tables::grow` meets its contract: after the parts of the digits below d the table has d times as many points. Assumes nothing.
use Prim.Native.Nat.{◌+◌, ◌*◌, ◌^◌, ◌≤◌, ◌<◌}
use native.Mathlib.Omega.{arith}
use Rattle.numbers.proofs.ListedLaws.{begins_less}
use Rattle.halton.specs.Images.{image_in}
use Rattle.tables.proofs.TableLaws.{point_below, part_first, part_more, table_more}
use native.Mathlib.Nat.{mul-le-mul_right, mul_comm, add-mul}
use Rattle.tables.proofs.grow.Goals as goal
use Rattle.tables.proofs.grow.Goals.{In-loop-d}

-- the first point of the next part fits
small : (c : In-loop-d) →
    let a = c.args in
    image_in a.l.now c.loop-d.d * a.w < 2 ^ 40
small c =
    let a = c.args in
    let t = c.requires.b_bound.3 in
    rw (part_first c.requires.le_b.3 (omega arith) t.power.exponent a.size a.w c.loop-d.d t.power.is c.requires.b_bound.2 (omega arith)) (point_below c.requires.le_b.3 (omega arith) (omega arith) _)

-- the next part lies behind the first and within the table
place : (c : In-loop-d) →
    let a = c.args in
    (a.size ≤ c.loop-d.d * a.size) × (c.loop-d.d * a.size + a.size ≤ 256)
place c =
    let a = c.args in
    let l = c.loop-d in (
      omega (arith, mul-le-mul_right {m = 1} {n = l.d} a.size (omega arith)),
      omega (arith, mul-le-mul_right {m = l.d + 1} {n = a.b} a.size (omega arith), add-mul l.d 1 a.size, mul_comm a.size a.b),
    )

pub overflow_mul-l : goal.overflow_mul-l
overflow_mul-l c = omega (arith, small (goal.at.overflow_mul-l c).In-loop-d)

pub spread-requires : goal.spread-requires
spread-requires c =
    let a = c.args in
    let l = c.loop-d in
    (small (goal.at.spread-requires c).In-loop-d, omega (arith, place (goal.at.spread-requires c).In-loop-d), omega (arith, place (goal.at.spread-requires c).In-loop-d), λ r h. rw (l.invariant.at r (omega (arith, place (goal.at.spread-requires c).In-loop-d))) (point_below c.requires.le_b.3 (omega arith) (omega arith) r))

pub loop-d-preserved : goal.loop-d-preserved
loop-d-preserved c =
    let a = c.args in
    let t = c.requires.b_bound.3 in
    let l = c.loop-d in
    part_more c.requires.le_b.3 (omega arith) t.power.exponent a.size a.w l.d t.power.is c.requires.b_bound.2 (omega arith) l.invariant (omega arith) c.spread.ensures

pub returns : goal.returns
returns c =
    let a = c.args in
    let l = c.loop-d in
    (table_more c.requires.b_bound.3 (begins_less l.invariant (a.b * a.size) (mul-le-mul_right {m = a.b} {n = l.d} a.size (omega arith))), omega arith)
