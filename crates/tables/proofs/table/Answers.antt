-- `tables::table` meets its contract: the weight of the last digit times the number of points stays the denominator. Assumes nothing.
use mathlib.Core.Path.{◌≡◌, refl, sym, ap, ◌∙◌}
use Prim.Native.Nat.{ℕ, ◌*◌, ◌/◌}
use native.Mathlib.Omega.{arith}
use Rattle.numbers.specs.Depth.{denominator}
use Rattle.numbers.proofs.DepthLaws.{weight_times}
use Rattle.columns.proofs.TileLaws.{table_pos}
use Rattle.tables.proofs.TableLaws.{table_weight}
use native.Mathlib.Nat.{mul-le-mul, mul-le-mul_left, mul_assoc, mul_comm}
use Rattle.tables.proofs.table.Goals as goal
use Rattle.tables.proofs.table.Goals.{After-first_weight-w}

-- the weight of the last place
last : (c : After-first_weight-w) →
    let b = c.args.b in
    c.first_weight-w.result * b ≡ denominator b
last c = rw c.first_weight-w.ensures (weight_times c.args.b (omega arith))

pub first_points-requires : goal.first_points-requires
first_points-requires c =
    (omega arith, omega arith, omega arith, c.requires.3, omega arith, last (goal.at.first_points-requires c).After-first_weight-w)

pub loop-size-init : goal.loop-size-init
loop-size-init c =
    let e = c.first_points.ensures in
    (omega arith, last (goal.at.loop-size-init c).After-first_weight-w, e.0, refl)

pub overflow_mul-size : goal.overflow_mul-size
overflow_mul-size c = omega (arith, mul-le-mul {n₁ = c.loop-size.size} {m₁ = c.args.b} {n₂ = 256} {m₂ = 256} (omega arith) (omega arith))

pub grow-requires : goal.grow-requires
grow-requires c =
    let l = c.loop-size in
    let first = c.first_points.ensures in
    record { le_b = (omega arith, omega arith, omega arith, c.requires.3); b_bound = (omega arith, omega (arith, first.1), ap (λ (y : ℕ). y * l.size) (table_weight l.invariant.2 (omega arith) (omega arith) l.invariant.1) ∙ l.invariant.1, l.invariant.2) }

pub loop-size-smaller : goal.loop-size-smaller
loop-size-smaller c =
    let a = c.args in
    let l = c.loop-size in
    omega (arith, table_pos l.invariant.2 (omega arith), mul-le-mul_left {m = 2} {n = a.b} l.size (omega arith))

pub loop-size-preserved : goal.loop-size-preserved
loop-size-preserved c =
    let a = c.args in
    let l = c.loop-size in
    let e = c.grow.ensures in (
      omega arith,
      ap (λ (y : ℕ). l.w / a.b * y) (mul_comm l.size a.b) ∙ sym (mul_assoc (l.w / a.b) a.b l.size) ∙ ap (λ (y : ℕ). y * l.size) (table_weight l.invariant.2 (omega arith) (omega arith) l.invariant.1) ∙ l.invariant.1,
      e.0,
      e.1 ∙ l.invariant.3,
    )

pub shape_of-t : goal.shape_of-t
shape_of-t c = c.loop-size.invariant.3 ∙ c.first_points.ensures.1

pub returns : goal.returns
returns c = (omega arith, c.loop-size.invariant.2)
