-- One case law a return; the axis is one that the plan has, so that its numerator and its denominator are the plan's. Assumes nothing.
-- where the state is tested: the call's start
-- where the axis and the slot count are taken
-- where the denominator is made
use mathlib.Core.Path.{◌≡◌, sym, ◌∙◌}
use mathlib.Core.Bool.{true, false}
use Prim.Native.Nat.{◌-◌, ◌^◌, ◌<◌, ◌≤◌}
use native.Mathlib.Omega.{arith}
use borrow.Author.Rules.{rules}
use Rattle.points.specs.Point.{numerator_of, denominator_of, slot_of}
use Rattle.points.proofs.ArrayLaws.{axis_at_lem}
use Rattle.state.specs.State.{plan_in, genuine}
use Rattle.calls.specs.Calls.{has_slots}
use Rattle.calls.proofs.CaseLaws.{foreign_of, known_of, slots_range, slot_foreign, slot_out, slot_off, slot_done}
use Rattle.calls.proofs.PointLaws.{known_arrays, known_numerator, known_denominator, fraction_small}
use Rattle.index_calls.proofs.slot.Goals as goal
use Rattle.index_calls.proofs.slot.Goals.{After-denominator-d, Else-not-has_slots, Else-not-is_genuine, Then-not-is_genuine}

foreign : (c : Then-not-is_genuine) → genuine c.args.s ≡ false
foreign c = foreign_of _ _ c.is_genuine.ensures c.if-not-is_genuine.true

known : (c : Else-not-is_genuine) → genuine c.args.s ≡ true
known c = known_of _ _ c.is_genuine.ensures c.if-not-is_genuine.false

pub returns-then-not-is_genuine : goal.returns-then-not-is_genuine
returns-then-not-is_genuine c = c.no_slot.ensures ∙ sym (slot_foreign _ _ _ _ (foreign (goal.at.returns-then-not-is_genuine c).Then-not-is_genuine))

pub returns-then-n-ge-INDEXES : goal.returns-then-n-ge-INDEXES
returns-then-n-ge-INDEXES c = c.no_slot-then-n-ge-INDEXES.ensures ∙ sym (slot_out _ _ _ _ (known (goal.at.returns-then-n-ge-INDEXES c).Else-not-is_genuine) (omega arith))

pub returns-then-not-has_slots : goal.returns-then-not-has_slots
returns-then-not-has_slots c =
    c.no_slot-then-not-has_slots.ensures ∙ sym (slot_off _ _ _ _ (known (goal.at.returns-then-not-has_slots c).Else-not-is_genuine) (omega arith) (foreign_of _ _ c.has_slots.ensures c.if-not-has_slots.true))

takes : (c : Else-not-has_slots) → let a = c.args in has_slots a.s.axes a.axis a.slots ≡ true
takes c = known_of _ _ c.has_slots.ensures c.if-not-has_slots.false

range : (c : Else-not-has_slots) → let a = c.args in (1 ≤ a.axis) × (a.axis ≤ a.s.axes) × (1 ≤ a.slots) × (a.slots ≤ 2 ^ 24)
range c = slots_range _ _ _ (takes c)

pub overflow_sub-i : goal.overflow_sub-i
overflow_sub-i c = omega (arith, range c)

pub numerator-x-requires : goal.numerator-x-requires
numerator-x-requires c =
    (axis_at_lem (known_arrays _ (known (goal.at.numerator-x-requires c).Else-not-is_genuine)) _ (omega (arith, range (goal.at.numerator-x-requires c).Else-not-has_slots)), omega arith)

pub denominator-d-requires : goal.denominator-d-requires
denominator-d-requires c =
    (axis_at_lem (known_arrays _ (known (goal.at.denominator-d-requires c).Else-not-is_genuine)) (c.args.axis - 1) (omega (arith, range (goal.at.denominator-d-requires c).Else-not-has_slots))).base

-- the numerator and the denominator that the code has are the plan's
fraction : (c : After-denominator-d) →
    let a = c.args in
    (c.numerator-x.result ≡ numerator_of (plan_in a.s) a.n (a.axis - 1))
    × (c.denominator-d.result ≡ denominator_of (plan_in a.s) (a.axis - 1))
    × (numerator_of (plan_in a.s) a.n (a.axis - 1) < denominator_of (plan_in a.s) (a.axis - 1)) × (denominator_of (plan_in a.s) (a.axis - 1) < 2 ^ 40)
fraction c = let range : let a = c.args in (1 ≤ a.axis) × (a.axis ≤ a.s.axes) × (1 ≤ a.slots) × (a.slots ≤ 2 ^ 24) = slots_range _ _ _ (known_of _ _ c.has_slots.ensures c.if-not-has_slots.false) in
    let known : genuine c.args.s ≡ true = known_of _ _ c.is_genuine.ensures c.if-not-is_genuine.false in
    let k = known in
    let a = c.args in
    let low : a.axis - 1 < a.s.axes = omega (arith, range) in
    let f = fraction_small a.s k (a.axis - 1) low a.n in (
      c.numerator-x.ensures ∙ known_numerator a.s k (a.axis - 1) low a.n,
      c.denominator-d.ensures ∙ known_denominator a.s k (a.axis - 1) low a.n,
      f.0,
      f.1,
    )

pub slot_of-requires : goal.slot_of-requires
slot_of-requires c = omega (arith, fraction c, range (goal.at.slot_of-requires c).Else-not-has_slots)

pub returns : goal.returns
unfolding slot_of
returns c =
    let f = fraction (goal.at.returns c).After-denominator-d in
    rw (c.slot_of.ensures, f.0, f.1) (sym (slot_done _ _ _ _ (known (goal.at.returns c).Else-not-is_genuine) (omega arith) (takes (goal.at.returns c).Else-not-has_slots)))
