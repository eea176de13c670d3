-- One case law a return; what is written is the state's next point, and the state is advanced by a step. Assumes nothing.
-- the state is tested at the start
-- where the point is written, the state is genuine
use mathlib.Core.Path.{◌≡◌, sym, ap, ◌∙◌}
use mathlib.Core.Bool.{true, false}
use native.Mathlib.Omega.{arith}
use borrow.Author.Rules.{rules}
use lib.ListN.{length, take}
use Rattle.state.specs.State.{genuine}
use Rattle.calls.specs.Calls.{moved}
use Rattle.calls.proofs.CaseLaws.{foreign_of, known_of, run_foreign, run_spent, run_no_room, run_clear, step_refused, step_done}
use Rattle.calls.proofs.PointLaws.{axes_few, step_put, front_long, known_arrays, known_starts, known_run, known_next, known_point, next_of}
use Rattle.run_calls.proofs.step.Goals as goal
use Rattle.run_calls.proofs.step.Goals.{After-store-arg-1, Else-not-is_genuine, Then-not-is_genuine}

foreign : (c : Then-not-is_genuine) → genuine c.args.s ≡ false
foreign c = foreign_of _ _ c.is_genuine.ensures c.if-not-is_genuine.true

known : (c : Else-not-is_genuine) → genuine c.args.s ≡ true
known c = known_of _ _ c.is_genuine.ensures c.if-not-is_genuine.false

pub refused-requires : goal.refused-requires
refused-requires c = tt

pub refused-requires-then-out-axes : goal.refused-requires-then-out-axes
refused-requires-then-out-axes c = tt

pub refused-requires-then-s : goal.refused-requires-then-s
refused-requires-then-s c = tt

pub returns-then-not-is_genuine : goal.returns-then-not-is_genuine
returns-then-not-is_genuine c =
    let a = c.args in
    let w = step_refused a.s a.out.now 14 (run_foreign a.s a.out.now _ (foreign (goal.at.returns-then-not-is_genuine c).Then-not-is_genuine)) in (c.refused.ensures ∙ sym w.0, sym w.1)

pub returns-then-out-axes : goal.returns-then-out-axes
returns-then-out-axes c =
    let a = c.args in
    let w = step_refused a.s a.out.now 12 (run_no_room a.s a.out.now _ (known (goal.at.returns-then-out-axes c).Else-not-is_genuine) (omega arith)) in (c.refused-then-out-axes.ensures ∙ sym w.0, sym w.1)

pub returns-then-s : goal.returns-then-s
returns-then-s c =
    let a = c.args in
    let w = step_refused a.s a.out.now 11 (run_spent a.s a.out.now _ (known (goal.at.returns-then-s c).Else-not-is_genuine) (omega arith) (omega arith)) in
    (c.refused-then-s.ensures ∙ sym w.0, sym w.1)

-- the words that are stored are the point's, one an axis
front : (c : After-store-arg-1) → let a = c.args in length (take a.s.axes a.s.numerators) ≡ a.s.axes
front c = let known : genuine c.args.s ≡ true = known_of _ _ c.is_genuine.ensures c.if-not-is_genuine.false in
    let a = c.args in
    let k = known in
    front_long a.s k a.s.numerators _ (known_next a.s k (omega arith))

pub slice_bounds-x-end : goal.slice_bounds-x-end
slice_bounds-x-end c =
    let long : length c.args.s.numerators ≡ 6 = search rules in
    omega (arith, long, axes_few _ (known (goal.at.slice_bounds-x-end c).Else-not-is_genuine))

pub slice_bounds-store-end : goal.slice_bounds-store-end
slice_bounds-store-end c = sym (front (goal.at.slice_bounds-store-end c).After-store-arg-1)

pub store-requires : goal.store-requires
store-requires c = omega (arith, front (goal.at.store-requires c).After-store-arg-1)

pub invariant_of-p : goal.invariant_of-p
invariant_of-p c = record { fit = known_arrays _ (known (goal.at.invariant_of-p c).Else-not-is_genuine) }

pub point_after-next-requires : goal.point_after-next-requires
point_after-next-requires c =
    let k = known (goal.at.point_after-next-requires c).Else-not-is_genuine in
    ((known_run _ k).0, omega arith, known_next _ k (omega arith))

pub overflow_add-s : goal.overflow_add-s
overflow_add-s c = let k = known_run _ (known (goal.at.overflow_add-s c).Else-not-is_genuine) in omega (arith, k.0.at 0, k.1)

pub moved_on-t-requires : goal.moved_on-t-requires
moved_on-t-requires c =
    let k = known (goal.at.moved_on-t-requires c).Else-not-is_genuine in
    (k, c.point_after-next.ensures ∙ next_of _ k _ (known_starts _ k) _)

pub returns : goal.returns
returns c =
    let k = known (goal.at.returns c).Else-not-is_genuine in
    let a = c.args in
    let w = step_done a.s a.out.now (run_clear a.s a.out.now _ k (omega arith) (omega arith)) in (
      ap (moved 0) c.moved_on-t.ensures ∙ sym w.0,
      step_put a.s k a.out.now _ _ a.s.taken (known_point a.s k (omega arith)) c.store.ensures ∙ sym w.1,
    )
