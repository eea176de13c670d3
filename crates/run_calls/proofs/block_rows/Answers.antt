-- One case law a return; the points are filled from the run's next index on, and the state is made anew. Assumes nothing.
-- the state is tested at the start
-- where the points are written, the state is genuine
use mathlib.Core.Path.{◌≡◌, sym, ap, ◌∙◌}
use mathlib.Core.Bool.{true, false}
use Prim.Native.Nat.{ℕ, ◌+◌, ◌*◌, ◌≤◌}
use native.Mathlib.Omega.{arith}
use borrow.Author.Rules.{rules}
use lib.ListN.{length}
use Rattle.columns.proofs.ColumnLaws.{columns_as}
use Rattle.points.proofs.RunLaws.{within_less, within_on}
use Rattle.state.specs.State.{made, plan_in, run_in, genuine}
use Rattle.state.specs.declared.Sampler.{Sampler}
use Rattle.calls.specs.declared.Blocked.{Blocked}
use Rattle.calls.specs.Calls.{row_numerator}
use Rattle.calls.proofs.CaseLaws.{foreign_of, known_of, run_foreign, run_spent, run_no_room, run_clear, rows_done}
use Rattle.calls.proofs.PointLaws.{axes_few, known_arrays, known_starts, known_run, next_of}
use Rattle.calls.proofs.RowLaws.{rows_fit, row_numerators, rows_none}
use Rattle.run_calls.proofs.block_rows.Goals as goal
use Rattle.run_calls.proofs.block_rows.Goals.{After-block_size-k, Else-not-is_genuine, Then-not-is_genuine}

foreign : (c : Then-not-is_genuine) → genuine c.args.s ≡ false
foreign c = foreign_of _ _ c.is_genuine.ensures c.if-not-is_genuine.true

known : (c : Else-not-is_genuine) → genuine c.args.s ≡ true
known c = known_of _ _ c.is_genuine.ensures c.if-not-is_genuine.false

pub no_block-requires : goal.no_block-requires
no_block-requires c = tt

pub no_block-requires-then-out-width : goal.no_block-requires-then-out-width
no_block-requires-then-out-width c = tt

pub no_block-requires-then-s : goal.no_block-requires-then-s
no_block-requires-then-s c = tt

pub returns-then-not-is_genuine : goal.returns-then-not-is_genuine
returns-then-not-is_genuine c =
    let a = c.args in
    rows_none a.s a.lead a.out.now _ 14 (run_foreign a.s a.out.now _ (foreign (goal.at.returns-then-not-is_genuine c).Then-not-is_genuine)) c.no_block.ensures

pub overflow_add-width : goal.overflow_add-width
overflow_add-width c = omega (arith, axes_few _ (known c))

pub returns-then-out-width : goal.returns-then-out-width
returns-then-out-width c =
    let a = c.args in
    rows_none a.s a.lead a.out.now _ 12 (run_no_room a.s a.out.now _ (known (goal.at.returns-then-out-width c).Else-not-is_genuine) (omega arith)) c.no_block-then-out-width.ensures

pub returns-then-s : goal.returns-then-s
returns-then-s c =
    let a = c.args in
    rows_none a.s a.lead a.out.now _ 11 (run_spent a.s a.out.now _ (known (goal.at.returns-then-s c).Else-not-is_genuine) (omega arith) (omega arith)) c.no_block-then-s.ensures

pub block_size-k-requires : goal.block_size-k-requires
block_size-k-requires c = omega (arith, (axes_few _ (known (goal.at.block_size-k-requires c).Else-not-is_genuine)).0)

-- the block fits into what is left of the run, and into the buffer
sized : (c : After-block_size-k) → let a = c.args in
    let k = c.block_size-k.result in
    (a.s.taken + k ≤ a.s.count) × (k * (a.lead + a.s.axes) ≤ length a.out.now)
sized c = let known : genuine c.args.s ≡ true = known_of _ _ c.is_genuine.ensures c.if-not-is_genuine.false in
    let f = rows_fit _ _ _ _ c.block_size-k.ensures in
    (omega (arith, f.0, (known_run _ (known)).1), omega (arith, f.1))

pub indexes-ns-requires : goal.indexes-ns-requires
indexes-ns-requires c = let r = known_run _ (known (goal.at.indexes-ns-requires c).Else-not-is_genuine) in within_less r.0 r.1

pub invariant_of-p : goal.invariant_of-p
invariant_of-p c = record { fit = known_arrays _ (known (goal.at.invariant_of-p c).Else-not-is_genuine) }

pub fill-requires : goal.fill-requires
fill-requires c =
    let k = known (goal.at.fill-requires c).Else-not-is_genuine in
    let t = c.args.s in
    let f = sized (goal.at.fill-requires c).After-block_size-k in
    let ns = c.indexes-ns in (
      omega arith,
      rw (ns.ensures t.count) (within_on (known_run _ k).0 t.count t.taken f.0),
      omega (arith, f.1),
    )

pub overflow_add-taken : goal.overflow_add-taken
overflow_add-taken c = omega (arith, (sized (goal.at.overflow_add-taken c).After-block_size-k).0, (known_run _ (known (goal.at.overflow_add-taken c).Else-not-is_genuine)).0.at 0)

pub next_point-next-requires : goal.next_point-next-requires
next_point-next-requires c = let k = known (goal.at.next_point-next-requires c).Else-not-is_genuine in (known_run _ k).0

pub moved_on-t-requires : goal.moved_on-t-requires
moved_on-t-requires c =
    let s = known (goal.at.moved_on-t-requires c).Else-not-is_genuine in
    (s, c.next_point-next.ensures ∙ next_of _ s _ (known_starts _ s) _)

-- the answer with the state that the code made, and how many points it wrote
answer : (k k' : ℕ) (t t' : Sampler) → k ≡ k' → t ≡ t' → ◌≡◌ {A = Blocked} (record { code = 0; points = k; state = t }) (record { code = 0; points = k'; state = t' })
answer k k' t t' e f = λ j. record { code = 0; points = e j; state = f j }

pub returns : goal.returns
returns c =
    let s = known (goal.at.returns c).Else-not-is_genuine in
    let a = c.args in
    let r = run_in a.s in
    let k = c.block_size-k.ensures in
    let w = rows_done a.lead a.s a.out.now (run_clear a.s a.out.now _ s (omega (arith, c.if-s.false)) (omega (arith, c.if-out-width.false))) in (
      answer _ _ _ _ k (c.moved_on-t.ensures ∙ ap (λ (j : ℕ). made (plan_in a.s) r (a.s.taken + j)) k) ∙ sym w,
      columns_as c.fill.ensures (row_numerator a.s) (row_numerators a.s s _ (c.indexes-ns.ensures a.s.count)),
    )
