-- One case law a return; what is written is the point by jumps. Assumes nothing.
-- where the state is tested, and where it is genuine: the call's start
-- where the point is made, the state is genuine
use mathlib.Core.Path.{◌≡◌, sym, ◌∙◌}
use mathlib.Core.Bool.{true, false}
use native.Mathlib.Omega.{arith}
use borrow.Author.Rules.{rules}
use lib.ListN.{length, take}
use Rattle.points.specs.Arrays.{point_at}
use Rattle.points.proofs.WordLaws.{point_at_all}
use Rattle.points.proofs.RunLaws.{within_all}
use Rattle.state.specs.State.{genuine}
use Rattle.calls.proofs.CaseLaws.{foreign_of, known_of, jump_foreign, jump_out, jump_no_room, jump_done}
use Rattle.calls.proofs.PointLaws.{axes_few, point_put, front_long, known_arrays}
use Rattle.index_calls.proofs.jump.Goals as goal
use Rattle.index_calls.proofs.jump.Goals.{After-point-x, Else-not-is_genuine, Then-not-is_genuine}

foreign : (c : Then-not-is_genuine) → genuine c.args.s ≡ false
foreign c = foreign_of _ _ c.is_genuine.ensures c.if-not-is_genuine.true

known : (c : Else-not-is_genuine) → genuine c.args.s ≡ true
known c = known_of _ _ c.is_genuine.ensures c.if-not-is_genuine.false

pub returns-then-not-is_genuine : goal.returns-then-not-is_genuine
returns-then-not-is_genuine c = let w = jump_foreign _ _ _ (foreign c) in (sym w.0, sym w.1)

pub returns-then-n-ge-INDEXES : goal.returns-then-n-ge-INDEXES
returns-then-n-ge-INDEXES c =
    let a = c.args in
    let w = jump_out a.s a.n a.out.now (known (goal.at.returns-then-n-ge-INDEXES c).Else-not-is_genuine) (omega arith) in (sym w.0, sym w.1)

pub returns-then-out-axes : goal.returns-then-out-axes
returns-then-out-axes c =
    let a = c.args in
    let w = jump_no_room a.s a.n a.out.now (known (goal.at.returns-then-out-axes c).Else-not-is_genuine) (omega arith) (omega arith) in (sym w.0, sym w.1)

pub invariant_of-p : goal.invariant_of-p
invariant_of-p c = record { fit = known_arrays _ (known (goal.at.invariant_of-p c).Else-not-is_genuine) }

pub point-x-requires : goal.point-x-requires
point-x-requires c = within_all 0 _ (omega arith)

-- the point is that of the index on every axis
point : (c : After-point-x) → let a = c.args in
    c.point-x.result ≡ point_at a.s.family a.s.axes a.s.bases a.s.directions (λ i. a.n)
point c = c.point-x.ensures ∙ point_at_all _ _ _ _ _

-- the words that are stored are the point's, one an axis
front : (c : After-point-x) → let a = c.args in length (take a.s.axes c.point-x.result) ≡ a.s.axes
front c = let known : genuine c.args.s ≡ true = known_of _ _ c.is_genuine.ensures c.if-not-is_genuine.false in
    let a = c.args in front_long a.s (known) c.point-x.result (λ i. a.n) (point c)

pub slice_bounds-x-end : goal.slice_bounds-x-end
slice_bounds-x-end c = omega (arith, axes_few _ (known (goal.at.slice_bounds-x-end c).Else-not-is_genuine))

pub slice_bounds-store-end : goal.slice_bounds-store-end
slice_bounds-store-end c = sym (front (goal.at.slice_bounds-store-end c).After-point-x)

pub store-requires : goal.store-requires
store-requires c = omega (arith, front (goal.at.store-requires c).After-point-x)

pub returns : goal.returns
returns c =
    let k = known (goal.at.returns c).Else-not-is_genuine in
    let a = c.args in
    let w = jump_done a.s a.n a.out.now k (omega arith) (omega arith) in
    (sym w.0, point_put a.s k a.out.now _ _ a.n (point (goal.at.returns c).After-point-x) c.store.ensures ∙ sym w.1)
