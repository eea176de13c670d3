-- `primitive::is_primitive` meets its contract. The loop's invariant: x to none of the quotients passed is 1. Assumes nothing.
use mathlib.Core.Path.{◌≡◌}
use Prim.Native.Nat.{ℕ, suc, ◌+◌, ◌-◌, ◌^◌, ◌<◌}
use native.Mathlib.Omega.{arith}
use native.Mathlib.Numerals.{add-one}
use borrow.Author.Count.{below_more}
use lib.ListN.{get_or}
use Rattle.binary.specs.Power.{power_of_x}
use Rattle.binary.proofs.OrderLaws.{not_primitive_whole, not_primitive_early, primitive_by_powers}
use Rattle.primitive.specs.Powers.{power_at}
use Rattle.primitive.proofs.is_primitive.Goals as goal
use Rattle.primitive.proofs.is_primitive.Goals.{then-q-i-gt0+else-powers-i-eq1, else-q-i-gt0}
use Rattle.primitive.proofs.is_primitive.Goals.{After-powers_tested-powers}

-- the first power is that of 2^d - 1
whole : (c : After-powers_tested-powers) →
    let a = c.args in
    get_or c.powers_tested-powers.result 0 0 ≡ power_of_x (2 ^ a.d) a.p (2 ^ a.d - 1)
unfolding power_at
whole c = c.powers_tested-powers.ensures.at 0 (omega arith)

-- those after it are of the quotients
early : (c : After-powers_tested-powers) (i : ℕ) → i < 4 →
    let a = c.args in
    get_or c.powers_tested-powers.result (i + 1) 0 ≡ power_of_x (2 ^ a.d) a.p (get_or c.quotients-q.result i 0)
unfolding power_at
early c i h = rw (add-one i) (c.powers_tested-powers.ensures.at (suc i) (omega arith))

pub returns-then-powers-ne1 : goal.returns-then-powers-ne1
returns-then-powers-ne1 c =
    not_primitive_whole c.args.d c.args.p c.requires.0 c.requires.2 (λ e. omega (arith, whole (goal.at.returns-then-powers-ne1 c).After-powers_tested-powers, c.if-powers-ne1.true))

pub returns-then-powers-i-eq1 : goal.returns-then-powers-i-eq1
returns-then-powers-i-eq1 c =
    let last : c.loop-i.i < 4 = omega (arith, c.loop-i-test.true) in
    not_primitive_early c.args.d c.args.p c.requires.0 c.requires.2 _ c.if-q-i-gt0.true (c.quotients-q.ensures.below c.loop-i.i last)
    (omega (arith, early (goal.at.returns-then-powers-i-eq1 c).After-powers_tested-powers c.loop-i.i last, c.if-powers-i-eq1.true))

pub loop-i-preserved : goal.loop-i-preserved
loop-i-preserved c =
    let last : c.loop-i.i < 4 = omega (arith, c.loop-i-test.true) in
    below_more _ c.loop-i.i c.loop-i.invariant
    (elim c.if-q-i-gt0.branch [
      | then-q-i-gt0+else-powers-i-eq1 w ↦ λ m e. omega (arith, early (goal.at.loop-i-preserved c).After-powers_tested-powers c.loop-i.i last, w.if-powers-i-eq1.false)
      | else-q-i-gt0 w ↦ λ m e. omega (arith, w.if-q-i-gt0.false)
    ])

pub returns : goal.returns
returns c =
    primitive_by_powers c.args.d c.args.p c.requires.0 c.requires.2 c.quotients-q.result c.quotients-q.ensures
    (omega (arith, whole (goal.at.returns c).After-powers_tested-powers, c.if-powers-ne1.false))
    (λ k h. c.loop-i.invariant k (omega arith))
