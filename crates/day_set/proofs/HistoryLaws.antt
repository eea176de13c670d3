-- The history of a day set by calls: it is genuine exactly where an accepted making, with accepted steps and blocks after it, leaves it, and a call
-- answers 15 exactly where none does. Assumes nothing.
use mathlib.Core.Path.{◌≡◌, sym, ap, ◌∙◌, subst}
use mathlib.Core.Bool.{true}
use mathlib.Core.Logic.{◌↔◌}
use mathlib.Core.List.{List, [], ◌∷◌}
use Prim.Native.Nat.{ℕ, zero, suc, ◌+◌, ◌-◌, ◌/◌, ◌^◌, ◌≤◌}
use native.Mathlib.Nat.{min-le_left}
use native.Mathlib.Numerals.{add-one}
use native.Mathlib.Omega.{arith}
use lib.ListN.{length, replicate, length-replicate}
use Rattle.plan.specs.Plan.{Plan, Valid, spell}
use Rattle.plan.specs.Order.{Condition, ◌when◌, first_due}
use Rattle.plan.proofs.OrderLaws.{other_due}
use Rattle.points.specs.Run.{Run, one_start}
use Rattle.points.proofs.RunLaws.{opens_count}
use Rattle.state.specs.State.{made}
use Rattle.state.specs.declared.Sampler.{Sampler}
use Rattle.state.proofs.GenuineLaws.{genuine_is}
use Rattle.calls.specs.History.{AfterCalls}
use Rattle.calls.proofs.CaseLaws.{run_cleared}
use Rattle.calls.proofs.HistoryLaws.{test_iff, foreign_iff, none_15, run_test_iff, Leaves, of_made, leaves_genuine, leaves_plan, none_opened, after_leaves, after_steps}
use Rattle.day_set.specs.DaySet.{day_of, day_run, day_made, day_plan, day_size, day_taken, day_width, from_zero, genuine_day}
use Rattle.day_set.specs.Calls.{foreign_day, make_spec, day_jump_spec, day_run_refusals, day_step_spec, day_block_size, day_block_spec}
use Rattle.day_set.specs.History.{DayAfter, make, stepped, filled, DayAfterCalls}
use Rattle.day_set.specs.Serving.{width_of}
use Rattle.day_set.specs.declared.DaySet.{DaySet}
use Rattle.day_set.proofs.CaseLaws.{by_run, day_is, run_is}
use Rattle.day_set.proofs.OrderLaws.{make_accepted, make_done, day_step_done, day_block_done}
use Rattle.day_set.proofs.DayLaws.{make_at, day_opens, day_genuine, day_step_at}

-- ---- accepted calls leave a sampler of the plan that was read, whose run starts at 0 on each axis

pub record DayLeaves (bytes : List ℕ) (d : DaySet) : Type 0 where
  pub run : Leaves bytes d.run
  pub start : from_zero d.run.starts ≡ true

day_of_made : {bytes : List ℕ} {d : DaySet} (p : Plan) → Valid p → bytes ≡ spell p → (N : ℕ) → N ≤ 2 ^ 32 → (taken : ℕ) → taken ≤ N → d ≡ day_made p N taken
    → DayLeaves bytes d
unfolding day_made
day_of_made p v e N fits taken h is = record {
  run = of_made p v e (day_run p N) taken (record { opens = day_opens p v N fits; not_past = unfold one_start in h }) (ap (λ (d : DaySet). d.run) is);
  start = ap (λ (d : DaySet). from_zero d.run.starts) is ∙ (day_is (day_made p N taken) (day_genuine p v N fits taken h)).0;
}

module _ {bytes : List ℕ} {d : DaySet} (l : DayLeaves bytes d) where
  pub day_leaves_genuine : genuine_day d ≡ true
  day_leaves_genuine = by_run d l.start ∙ leaves_genuine l.run

  size_fits : day_size d ≤ 2 ^ 32
  size_fits = opens_count l.run.run.opens l.run.valid

  -- a day set with the same plan and size
  next : {t : DaySet} (taken : ℕ) → taken ≤ day_size d → t ≡ day_made (day_plan d) (day_size d) taken → DayLeaves bytes t
  next taken h e =
      day_of_made l.run.plan l.run.valid l.run.spelled (day_size d) size_fits taken h
      (e ∙ ap (λ (p : Plan). day_made p (day_size d) taken) (leaves_plan l.run))

-- an accepted making
pub make_leaves : {bytes : List ℕ} {s : Sampler} (l : Leaves bytes s) (N : ℕ) → (make_spec s N).code ≡ 0
    → (N ≤ 2 ^ 32) × ((make_spec s N).set ≡ day_made l.plan N 0)
make_leaves {s = s} l N z =
    let a = make_accepted s N z in
    (a.1, ap (λ (x : _). x.set) (make_done s N a.0 a.1) ∙ ap (λ (p : Plan). day_made p N 0) (leaves_plan l))

pub day_after_leaves : {bytes : List ℕ} {d : DaySet} → DayAfter bytes d → DayLeaves bytes d
unfolding day_step_spec day_block_spec
day_after_leaves (make {s} h N z) =
    let l = after_leaves h in
    let m = make_leaves l N z in
    day_of_made l.plan l.valid l.spelled N m.0 0 (omega arith) m.1
day_after_leaves (stepped {d} h buf z) =
    let left = (run_cleared (genuine_day d) d.run buf (day_width d) z).1 in
    next (day_after_leaves h) (day_taken d + 1) (omega arith) (ap (λ (a : _). a.set) (day_step_done d buf z).0)
day_after_leaves (filled {d} h buf z) =
    let left = (run_cleared (genuine_day d) d.run buf (day_width d) z).1 in
    let few = min-le_left (day_size d - day_taken d) (length buf / day_width d) in
    next (day_after_leaves h) (day_taken d + day_block_size d buf) (omega arith) (ap (λ (a : _). a.set) (day_block_done d buf z).0)

-- ---- and every plan and size is left by some: read, make, and step

module _ (p : Plan) (v : Valid p) (N : ℕ) (fits : N ≤ 2 ^ 32) where
  day_after_making : DayAfter (spell p) (day_made p N 0)
  day_after_making =
      let o = (none_opened p v).opens in
      let h = after_steps p v (one_start p 0 0) o 0 (omega arith) in
      let e = make_at p v (one_start p 0 0) o 0 (omega arith) N fits in
      subst (DayAfter (spell p)) (ap (λ (a : _). a.set) e) (make h N (ap (λ (a : _). a.code) e))

  pub day_after_steps : (taken : ℕ) → taken ≤ N → DayAfter (spell p) (day_made p N taken)
  day_after_steps zero h = day_after_making
  day_after_steps (suc taken) h =
      let buf : List ℕ = replicate (width_of p) 0 in
      let e = (day_step_at p v N fits taken buf (omega (arith, length-replicate {A = ℕ} (width_of p) 0)) (omega arith)).0 in
      subst (DayAfter (spell p)) (ap (λ (a : _). a.set) e ∙ ap (day_made p N) (add-one taken)) (stepped (day_after_steps taken (omega arith)) buf (ap (λ (a : _). a.code) e))

-- The test decides the history by calls.
pub day_after_iff : (d : DaySet) → DayAfterCalls d ↔ (genuine_day d ≡ true)
unfolding day_made
day_after_iff d = (
  λ h. day_leaves_genuine (day_after_leaves h.1),
  λ e.
      let s = day_is d e in
      let g = genuine_is d.run s.1 in
      let fits : day_size d ≤ 2 ^ 32 = opens_count g.run.opens g.valid in
      let is : day_made (day_plan d) (day_size d) (day_taken d) ≡ d =
      ap day_of (ap (λ (r : Run). made (day_plan d) r (day_taken d)) (sym (run_is d.run s.1 s.0)) ∙ sym g.is) in
      (spell (day_plan d), subst (DayAfter (spell (day_plan d))) is (day_after_steps (day_plan d) g.valid (day_size d) fits (day_taken d) g.run.not_past)),
)

-- ---- number 15

pub day_foreign_iff : (d : DaySet) (order : List Condition) → (first_due order ≡ 15 → ⊥)
    → (first_due (15 when foreign_day d ∷ order) ≡ 15) ↔ (DayAfterCalls d → ⊥)
day_foreign_iff d = test_iff (genuine_day d) (day_after_iff d)

pub make_foreign_iff : (s : Sampler) (N : ℕ) → ((make_spec s N).code ≡ 15) ↔ (AfterCalls s → ⊥)
unfolding make_spec
make_foreign_iff s N = foreign_iff s _ (other_due 11 _ [] 15 (λ e. omega arith) none_15)

module _ (d : DaySet) where
  pub day_jump_foreign_iff : (n : ℕ) (buf : List ℕ) → ((day_jump_spec d n buf).code ≡ 15) ↔ (DayAfterCalls d → ⊥)
  unfolding day_jump_spec
  day_jump_foreign_iff n buf = day_foreign_iff d _ (other_due 11 _ _ 15 (λ e. omega arith) (other_due 13 _ [] 15 (λ e. omega arith) none_15))

  day_run_foreign_iff : (buf : List ℕ) → (first_due (day_run_refusals d buf) ≡ 15) ↔ (DayAfterCalls d → ⊥)
  day_run_foreign_iff buf = run_test_iff (genuine_day d) (day_after_iff d) _ _

  pub day_step_foreign_iff : (buf : List ℕ) → ((day_step_spec d buf).code ≡ 15) ↔ (DayAfterCalls d → ⊥)
  unfolding day_step_spec
  day_step_foreign_iff buf = day_run_foreign_iff buf

  pub day_block_foreign_iff : (buf : List ℕ) → ((day_block_spec d buf).code ≡ 15) ↔ (DayAfterCalls d → ⊥)
  unfolding day_block_spec
  day_block_foreign_iff buf = day_run_foreign_iff buf
