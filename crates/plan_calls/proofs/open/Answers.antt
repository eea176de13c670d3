-- One case law a return; the state opened is the one made of the same plan. Assumes nothing.
-- the state is at the start
-- where it is genuine, where the starts are in range, and where there is one for each axis
-- where the next point is made, the run is one that is taken
use mathlib.Core.Path.{◌≡◌, refl, sym, ap, ◌∙◌}
use mathlib.Core.Bool.{true, false}
use native.Mathlib.Omega.{arith}
use Rattle.points.specs.Run.{run_of, in_range, has_starts, Opens}
use Rattle.points.proofs.RunLaws.{starts_long, opens_within}
use Rattle.state.specs.State.{plan_in, genuine}
use Rattle.state.proofs.GenuineLaws.{genuine_is}
use Rattle.calls.specs.Calls.{moved}
use Rattle.calls.proofs.CaseLaws.{foreign_of, known_of, open_foreign, open_out, open_split, open_done}
use Rattle.calls.proofs.PointLaws.{axes_few, known_arrays, known_opens, next_of}
use Rattle.plan_calls.proofs.open.Goals as goal
use Rattle.plan_calls.proofs.open.Goals.{Else-not-all_in_range, Else-not-has_starts, Else-not-is_genuine, Then-not-is_genuine}

foreign : (c : Then-not-is_genuine) → genuine c.args.s ≡ false
foreign c = foreign_of _ _ c.is_genuine.ensures c.if-not-is_genuine.true

known : (c : Else-not-is_genuine) → genuine c.args.s ≡ true
known c = known_of _ _ c.is_genuine.ensures c.if-not-is_genuine.false

range : (c : Else-not-all_in_range) → let a = c.args in in_range (run_of a.starts.now a.count) ≡ true
range c = known_of _ _ c.all_in_range.ensures c.if-not-all_in_range.false

has : (c : Else-not-has_starts) → let a = c.args in has_starts a.s.family a.s.axes a.starts.now ≡ true
has c = known_of _ _ c.has_starts.ensures c.if-not-has_starts.false

opens : (c : Else-not-has_starts) → let a = c.args in Opens (plan_in a.s) (run_of a.starts.now a.count)
opens c = let range : let a = c.args in in_range (run_of a.starts.now a.count) ≡ true = known_of _ _ c.all_in_range.ensures c.if-not-all_in_range.false in
    let known : genuine c.args.s ≡ true = known_of _ _ c.is_genuine.ensures c.if-not-is_genuine.false in
    known_opens _ (known) _ (range) (has c)

pub refused-requires : goal.refused-requires
refused-requires c = tt

pub refused-requires-then-not-all_in_range : goal.refused-requires-then-not-all_in_range
refused-requires-then-not-all_in_range c = tt

pub refused-requires-then-not-has_starts : goal.refused-requires-then-not-has_starts
refused-requires-then-not-has_starts c = tt

pub all_in_range-requires : goal.all_in_range-requires
all_in_range-requires c = tt

pub has_starts-requires : goal.has_starts-requires
has_starts-requires c = tt

pub returns-then-not-is_genuine : goal.returns-then-not-is_genuine
returns-then-not-is_genuine c = c.refused.ensures ∙ sym (open_foreign _ _ (foreign (goal.at.returns-then-not-is_genuine c).Then-not-is_genuine))

pub returns-then-not-all_in_range : goal.returns-then-not-all_in_range
returns-then-not-all_in_range c =
    let r = c.all_in_range in
    c.refused-then-not-all_in_range.ensures ∙ sym (open_out _ _ (known (goal.at.returns-then-not-all_in_range c).Else-not-is_genuine) (foreign_of _ _ r.ensures c.if-not-all_in_range.true))

pub returns-then-not-has_starts : goal.returns-then-not-has_starts
returns-then-not-has_starts c =
    let r = c.has_starts in
    c.refused-then-not-has_starts.ensures ∙ sym (open_split _ _ (known (goal.at.returns-then-not-has_starts c).Else-not-is_genuine) (range (goal.at.returns-then-not-has_starts c).Else-not-all_in_range) (foreign_of _ _ r.ensures c.if-not-has_starts.true))

pub six_starts-six-requires : goal.six_starts-six-requires
six_starts-six-requires c =
    let k = known (goal.at.six_starts-six-requires c).Else-not-is_genuine in
    omega (arith, axes_few _ k, starts_long _ _ _ (has c))

pub invariant_of-p : goal.invariant_of-p
invariant_of-p c = record { fit = known_arrays _ (known (goal.at.invariant_of-p c).Else-not-is_genuine) }

pub next_point-next-requires : goal.next_point-next-requires
next_point-next-requires c =
    let k = known (goal.at.next_point-next-requires c).Else-not-is_genuine in
    let six = c.six_starts-six in
    rw six.ensures (opens_within (opens (goal.at.next_point-next-requires c).Else-not-has_starts) (genuine_is _ k).valid)

pub with_run-t-requires : goal.with_run-t-requires
with_run-t-requires c = known (goal.at.with_run-t-requires c).Else-not-is_genuine

pub returns : goal.returns
returns c =
    let k = known (goal.at.returns c).Else-not-is_genuine in
    let a = c.args in
    let r = run_of a.starts.now a.count in
    let six = c.six_starts-six in
    ap (moved 0) (c.with_run-t.ensures r six.ensures refl (c.next_point-next.ensures ∙ next_of a.s k r six.ensures 0))
    ∙ sym (open_done _ _ k (range (goal.at.returns c).Else-not-all_in_range) (has (goal.at.returns c).Else-not-has_starts))
