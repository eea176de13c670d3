-- One case law a return; the state's arrays count its plan's points. Assumes nothing.
-- the state is tested at the start
-- where the points are counted, the window is taken
use mathlib.Core.Path.{◌≡◌, sym, ap, ◌∙◌}
use mathlib.Core.Bool.{true, false}
use Prim.Native.Nat.{ℕ, ◌+◌, ◌<◌}
use native.Mathlib.Nat.{zero-add}
use native.Mathlib.Omega.{arith}
use borrow.Author.Rules.{rules}
use lib.ListN.{get_or}
use Rattle.points.specs.Run.{index_at}
use Rattle.points.proofs.RunLaws.{within_less, within_on}
use Rattle.state.specs.State.{run_in, genuine}
use Rattle.calls.proofs.CaseLaws.{foreign_of, known_of}
use Rattle.calls.proofs.PointLaws.{axes_few, known_arrays, known_run, from_step}
use Rattle.window.specs.Counting.{is_window}
use Rattle.window.proofs.RangeLaws.{window_room}
use Rattle.window_count.specs.Call.{counted}
use Rattle.window_count.proofs.CaseLaws.{count_foreign, count_off, count_done, count_in_arrays, bound_known}
use Rattle.window_count.proofs.counted_by.Goals as goal
use Rattle.window_count.proofs.counted_by.Goals.{Else-not-is_genuine, Else-not-is_window, Then-not-is_genuine, Then-not-is_window}

foreign : (c : Then-not-is_genuine) → genuine c.args.s ≡ false
foreign c = foreign_of _ _ c.is_genuine.ensures c.if-not-is_genuine.true

known : (c : Else-not-is_genuine) → genuine c.args.s ≡ true
known c = known_of _ _ c.is_genuine.ensures c.if-not-is_genuine.false

off : (c : Then-not-is_window) → let a = c.args in is_window a.w.now a.s.axes ≡ false
off c = foreign_of _ _ c.is_window.ensures c.if-not-is_window.true

fits : (c : Else-not-is_window) → let a = c.args in is_window a.w.now a.s.axes ≡ true
fits c = known_of _ _ c.is_window.ensures c.if-not-is_window.false

pub returns-then-not-is_genuine : goal.returns-then-not-is_genuine
returns-then-not-is_genuine c = c.refused.ensures ∙ sym (count_foreign _ _ (foreign (goal.at.returns-then-not-is_genuine c).Then-not-is_genuine))

pub is_window-requires : goal.is_window-requires
is_window-requires c = omega (arith, axes_few _ (known c))

pub returns-then-not-is_window : goal.returns-then-not-is_window
returns-then-not-is_window c = c.refused-then-not-is_window.ensures ∙ sym (count_off _ _ (known (goal.at.returns-then-not-is_window c).Else-not-is_genuine) (off (goal.at.returns-then-not-is_window c).Then-not-is_window))

pub indexes-ns-requires : goal.indexes-ns-requires
indexes-ns-requires c = within_less (known_run _ (known (goal.at.indexes-ns-requires c).Else-not-is_genuine)).0 (omega arith)

pub invariant_of-p : goal.invariant_of-p
invariant_of-p c = record { fit = known_arrays _ (known (goal.at.invariant_of-p c).Else-not-is_genuine) }

pub inside_by-inside-requires : goal.inside_by-inside-requires
inside_by-inside-requires c =
    let k = known (goal.at.inside_by-inside-requires c).Else-not-is_genuine in
    let t = c.args.s in
    let ns = c.indexes-ns in
    (rw (ns.ensures t.count) (within_on (known_run _ k).0 t.count 0 (omega arith)), window_room _ _ (fits (goal.at.inside_by-inside-requires c).Else-not-is_window))

pub bound-bound-requires : goal.bound-bound-requires
bound-bound-requires c =
    let k = known (goal.at.bound-bound-requires c).Else-not-is_genuine in
    omega (arith, (known_run _ k).0.at 0)

answer : {i i' b b' : ℕ} → i ≡ i' → b ≡ b' → counted 0 i b ≡ counted 0 i' b'
answer e f = λ j. counted 0 (e j) (f j)

pub returns : goal.returns
returns c =
    let k = known (goal.at.returns c).Else-not-is_genuine in
    let a = c.args in
    let ns = c.indexes-ns in
    let first : (i t : ℕ) → i < a.s.axes → get_or ns.result i 0 + t ≡ index_at (run_in a.s) i t =
    λ i t l. from_step a.s k 0 ns.result (ns.ensures a.s.count) i t l ∙ ap (index_at (run_in a.s) i) (zero-add t) in
    answer (c.inside_by-inside.ensures ∙ count_in_arrays a.s a.w.now k (run_in a.s) _ first) (c.bound-bound.ensures ∙ bound_known a.s a.w.now k a.s.count)
    ∙ sym (count_done _ _ k (fits (goal.at.returns c).Else-not-is_window))
