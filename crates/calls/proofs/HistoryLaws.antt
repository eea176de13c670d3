-- The history by calls: a state is genuine exactly where accepted calls leave it, and a call answers 15 exactly where none do. Assumes nothing.
use mathlib.Core.Path.{◌≡◌, refl, sym, ap, ap₂, ◌∙◌, subst}
use mathlib.Core.Bool.{Bool, true, false, not, true≢false}
use mathlib.Core.Logic.{◌↔◌}
use mathlib.Core.List.{List, [], ◌∷◌}
use Prim.Native.Nat.{ℕ, zero, suc, ◌+◌, ◌-◌, ◌/◌, ◌≤◌}
use native.Mathlib.Nat.{min-le_left}
use native.Mathlib.Numerals.{add-one}
use native.Mathlib.Omega.{arith}
use lib.ListN.{length, replicate, length-replicate}
use borrow.Author.Tests.{not-true}
use Rattle.bits.specs.Stream.{AllBelow}
use Rattle.plan.specs.Plan.{Plan, Valid, spell}
use Rattle.plan.specs.Reading.{Reading, refused, accepted, read_plan}
use Rattle.plan.specs.Order.{Condition, ◌when◌, first_due}
use Rattle.plan.proofs.SpellingLaws.{spell_below}
use Rattle.plan.proofs.AcceptLaws.{accepted_iff, read_spelled}
use Rattle.plan.proofs.RefusalLaws.{refused_range}
use Rattle.plan.proofs.OrderLaws.{none_given, other_due, first_iff}
use Rattle.points.specs.Point.{axis_count}
use Rattle.points.specs.Run.{Run, one_start, Opens}
use Rattle.points.proofs.PointLaws.{axis_count_lem}
use Rattle.points.proofs.RunLaws.{opens_long, one_opens}
use Rattle.state.specs.State.{made, plan_in, run_in, genuine}
use Rattle.state.specs.History.{Reachable}
use Rattle.state.specs.declared.Sampler.{Sampler}
use Rattle.state.proofs.GenuineLaws.{Permitted, genuine_is, made_genuine}
use Rattle.state.proofs.PlanLaws.{plan_in_made, run_in_made}
use Rattle.state.proofs.HistoryLaws.{genuine_iff}
use Rattle.calls.specs.Calls.{moved, read_state, read_spec, foreign, run_order, write_spec, open_spec, jump_spec, run_refusals, step_spec, block_size, block_spec, second_spec, slot_spec}
use Rattle.calls.specs.History.{After, read, opened, stepped, filled, last_run, AfterCalls}
use Rattle.calls.proofs.CaseLaws.{open_accepted, open_done, run_cleared, step_done, block_done}
use Rattle.calls.proofs.PointLaws.{known_opens}
use Rattle.calls.proofs.RunLaws.{step_at, open_at}

-- ---- accepted calls leave the plan that was read, and a permitted run

pub record Leaves (bytes : List ℕ) (s : Sampler) : Type 0 where
  pub plan : Plan
  pub valid : Valid plan
  pub spelled : bytes ≡ spell plan
  pub run : Permitted plan (run_in s) s.taken
  pub is : s ≡ made plan (run_in s) s.taken

pub of_made : {bytes : List ℕ} {s : Sampler} (p : Plan) → Valid p → bytes ≡ spell p → (r : Run) (taken : ℕ) → Permitted p r taken → s ≡ made p r taken
    → Leaves bytes s
of_made {bytes} {s} p v e r taken h is =
    let run : run_in s ≡ r = ap run_in is ∙ run_in_made p r (opens_long h.opens) taken in
    let many : s.taken ≡ taken = ap (λ (t : Sampler). t.taken) is ∙ unfold made in refl in
    record { plan = p; valid = v; spelled = e; run = rw (run, many) h; is = is ∙ ap₂ (made p) (sym run) (sym many) }

module _ {bytes : List ℕ} {s : Sampler} (l : Leaves bytes s) where
  pub leaves_genuine : genuine s ≡ true
  leaves_genuine = ap genuine l.is ∙ made_genuine l.plan l.valid (run_in s) s.taken l.run

  pub leaves_plan : plan_in s ≡ l.plan
  leaves_plan = ap plan_in l.is ∙ plan_in_made l.plan l.valid (run_in s) s.taken

  -- a state with the same plan
  next : {t : Sampler} (r : Run) (taken : ℕ) → Permitted l.plan r taken → t ≡ made (plan_in s) r taken → Leaves bytes t
  next r taken h e = of_made l.plan l.valid l.spelled r taken h (e ∙ ap (λ (p : Plan). made p r taken) leaves_plan)

  -- with the same run it has the same
  held : (taken : ℕ) → run_in (made (plan_in s) (run_in s) taken) ≡ run_in s
  held taken = run_in_made (plan_in s) (run_in s) (opens_long l.run.opens ∙ ap axis_count (sym leaves_plan)) taken

  -- an accepted opening
  pub open_leaves : (r : Run) → (open_spec s r).code ≡ 0 → Opens l.plan r × ((open_spec s r).state ≡ made l.plan r 0)
  open_leaves r z =
      let a = open_accepted s r z in (
        subst (λ (p : Plan). Opens p r) leaves_plan (known_opens s leaves_genuine r a.1 a.2),
        ap (λ (a : _). a.state) (open_done s r leaves_genuine a.1 a.2) ∙ ap (λ (p : Plan). made p r 0) leaves_plan,
      )

-- an accepted reading
pub read_accepted : (bytes : List ℕ) → AllBelow 256 bytes → (read_spec bytes).code ≡ 0
    → (p : Plan) × Valid p × (bytes ≡ spell p) × ((read_spec bytes).state ≡ made p (one_start p 0 0) 0)
unfolding read_spec read_state
read_accepted bytes below z = go (read_plan bytes) refl
  where
    go : (r : Reading) → read_plan bytes ≡ r → (p : Plan) × Valid p × (bytes ≡ spell p) × ((read_state (read_plan bytes)).state ≡ made p (one_start p 0 0) 0)
    go (refused n) e = absurd (omega (arith, rw e at z, refused_range bytes n e))
    go (accepted p) e = let a = (accepted_iff bytes below p).0 e in (p, a.0, a.1, rw e refl)

-- number 2 (family) is answered for no bytes (02's K5)
pub read_never_two : (bytes : List ℕ) → (read_spec bytes).code ≡ 2 → ⊥
unfolding read_spec read_state
read_never_two bytes z = go (read_plan bytes) refl
  where
    go : (r : Reading) → read_plan bytes ≡ r → ⊥
    go (refused n) e = (refused_range bytes n e).2 (rw e at z)
    go (accepted p) e = omega (arith, rw e at z)

-- the run that a reading leaves
pub none_opened : (p : Plan) → Valid p → Permitted p (one_start p 0 0) 0
none_opened p v = record { opens = one_opens p 0 0 (axis_count_lem p v).0 (omega arith); not_past = omega arith }

pub after_leaves : {bytes : List ℕ} {s : Sampler} → After bytes s → Leaves bytes s
unfolding open_spec step_spec block_spec
after_leaves (read below z) =
    let a = read_accepted _ below z in of_made a.0 a.1 a.2 (one_start a.0 0 0) 0 (none_opened a.0 a.1) a.3
after_leaves (opened {s} h r z) =
    let l = after_leaves h in
    let o = open_leaves l r z in
    of_made l.plan l.valid l.spelled r 0 (record { opens = o.0; not_past = omega arith }) o.1
after_leaves (stepped {s} h buf z) =
    let l = after_leaves h in
    let left = (run_cleared (genuine s) s buf s.axes z).1 in
    next l (run_in s) (s.taken + 1) (record { opens = l.run.opens; not_past = omega arith }) (ap (λ (a : _). a.state) (step_done s buf z).0)
after_leaves (filled {s} h buf z) =
    let l = after_leaves h in
    let left = (run_cleared (genuine s) s buf s.axes z).1 in
    let few = min-le_left (s.count - s.taken) (length buf / s.axes) in
    next l (run_in s) (s.taken + block_size s buf) (record { opens = l.run.opens; not_past = omega arith }) (ap (λ (a : _). a.state) (block_done s buf z).0)

-- ---- and every plan and permitted run is left by some: read, open, and step

module _ (p : Plan) (v : Valid p) (r : Run) (fits : Opens p r) where
  after_reading : After (spell p) (made p (one_start p 0 0) 0)
  unfolding read_spec read_state
  after_reading =
      let e : read_spec (spell p) ≡ moved 0 (made p (one_start p 0 0) 0) = rw (read_spelled p v) refl in
      subst (After (spell p)) (ap (λ (a : _). a.state) e) (read (spell_below p) (ap (λ (a : _). a.code) e))

  after_opening : After (spell p) (made p r 0)
  after_opening =
      let e = open_at p v (one_start p 0 0) (none_opened p v).opens 0 (omega arith) r fits in
      subst (After (spell p)) (ap (λ (a : _). a.state) e) (opened after_reading r (ap (λ (a : _). a.code) e))

  pub after_steps : (taken : ℕ) → taken ≤ r.count → After (spell p) (made p r taken)
  after_steps zero h = after_opening
  after_steps (suc taken) h =
      let buf : List ℕ = replicate (axis_count p) 0 in
      let e = (step_at p v r fits buf (omega (arith, length-replicate {A = ℕ} (axis_count p) 0)) taken (omega arith)).0 in
      subst (After (spell p)) (ap (λ (a : _). a.state) e ∙ ap (made p r) (add-one taken)) (stepped (after_steps taken (omega arith)) buf (ap (λ (a : _). a.code) e))

-- The history by calls is the test's, and the inductive history's.
pub after_iff : (s : Sampler) → AfterCalls s ↔ (genuine s ≡ true)
after_iff s = (
  λ h. leaves_genuine (after_leaves h.1),
  λ e.
      let g = genuine_is s e in
      (spell (plan_in s), subst (After (spell (plan_in s))) (sym g.is) (after_steps (plan_in s) g.valid (run_in s) g.run.opens s.taken g.run.not_past)),
)

pub after_reachable : (s : Sampler) → AfterCalls s ↔ Reachable s
after_reachable s = (λ h. (genuine_iff s).0 ((after_iff s).0 h), λ r. (after_iff s).1 ((genuine_iff s).1 r))

-- ---- the run that the last accepted opening was given

pub last_run_lem : {bytes : List ℕ} {s : Sampler} (h : After bytes s) → run_in s ≡ last_run h
unfolding last_run open_spec step_spec block_spec
last_run_lem {bytes} (read below z) =
    let a = read_accepted bytes below z in
    let p = a.0 in
    ap run_in a.3 ∙ run_in_made p (one_start p 0 0) (opens_long (none_opened p a.1).opens) 0
    ∙ ap (λ (q : Plan). one_start q 0 0) (sym (ap plan_in a.3 ∙ plan_in_made p a.1 (one_start p 0 0) 0))
last_run_lem (opened {s} h r z) =
    let l = after_leaves h in
    let o = open_leaves l r z in ap run_in o.1 ∙ run_in_made l.plan r (opens_long o.0) 0
last_run_lem (stepped {s} h buf z) = ap run_in (ap (λ (a : _). a.state) (step_done s buf z).0) ∙ held (after_leaves h) (s.taken + 1) ∙ last_run_lem h
last_run_lem (filled {s} h buf z) = ap run_in (ap (λ (a : _). a.state) (block_done s buf z).0) ∙ held (after_leaves h) (s.taken + block_size s buf) ∙ last_run_lem h

-- ---- number 15

-- an order that begins with a test's refusal gives it exactly where what the test decides does not hold
pub test_iff : {P : Type 0} (test : Bool) → P ↔ (test ≡ true) → (order : List Condition) → (first_due order ≡ 15 → ⊥)
    → (first_due (15 when not test ∷ order) ≡ 15) ↔ (P → ⊥)
test_iff {P} test decides order f = (
  λ e h. true≢false (sym (decides.0 h) ∙ not-true test ((first_iff 15 (not test) order f).0 e)),
  λ none. (first_iff 15 (not test) order f).1 (go test refl none),
)
  where
    go : (b : Bool) → test ≡ b → (P → ⊥) → not test ≡ true
    go true e none = absurd (none (decides.1 e))
    go false e none = rw e refl

-- so no accepted calls leave the state
pub foreign_iff : (s : Sampler) (order : List Condition) → (first_due order ≡ 15 → ⊥)
    → (first_due (15 when foreign s ∷ order) ≡ 15) ↔ (AfterCalls s → ⊥)
foreign_iff s = test_iff (genuine s) (after_iff s)

pub none_15 : first_due [] ≡ 15 → ⊥
none_15 = none_given 15 (λ e. omega arith)

-- the order of steps and blocks
pub run_test_iff : {P : Type 0} (test : Bool) → P ↔ (test ≡ true) → (is_spent no_room : Bool)
    → (first_due (run_order (not test) is_spent no_room) ≡ 15) ↔ (P → ⊥)
run_test_iff test decides is_spent no_room =
    test_iff test decides _ (other_due 13 no_room _ 15 (λ e. omega arith) (other_due 12 is_spent [] 15 (λ e. omega arith) none_15))

module _ (s : Sampler) where
  pub write_foreign_iff : (buf : List ℕ) → ((write_spec s buf).code ≡ 15) ↔ (AfterCalls s → ⊥)
  unfolding write_spec
  write_foreign_iff buf = foreign_iff s _ (other_due 13 _ [] 15 (λ e. omega arith) none_15)

  pub open_foreign_iff : (r : Run) → ((open_spec s r).code ≡ 15) ↔ (AfterCalls s → ⊥)
  unfolding open_spec
  open_foreign_iff r = foreign_iff s _ (other_due 11 _ _ 15 (λ e. omega arith) (other_due 17 _ [] 15 (λ e. omega arith) none_15))

  pub jump_foreign_iff : (n : ℕ) (buf : List ℕ) → ((jump_spec s n buf).code ≡ 15) ↔ (AfterCalls s → ⊥)
  unfolding jump_spec
  jump_foreign_iff n buf = foreign_iff s _ (other_due 11 _ _ 15 (λ e. omega arith) (other_due 13 _ [] 15 (λ e. omega arith) none_15))

  run_foreign_iff : (buf : List ℕ) → (first_due (run_refusals s buf) ≡ 15) ↔ (AfterCalls s → ⊥)
  run_foreign_iff buf = run_test_iff (genuine s) (after_iff s) _ _

  pub step_foreign_iff : (buf : List ℕ) → ((step_spec s buf).code ≡ 15) ↔ (AfterCalls s → ⊥)
  unfolding step_spec
  step_foreign_iff buf = run_foreign_iff buf

  pub block_foreign_iff : (buf : List ℕ) → ((block_spec s buf).code ≡ 15) ↔ (AfterCalls s → ⊥)
  unfolding block_spec
  block_foreign_iff buf = run_foreign_iff buf

  pub second_foreign_iff : (n : ℕ) → ((second_spec s n).code ≡ 15) ↔ (AfterCalls s → ⊥)
  unfolding second_spec
  second_foreign_iff n = foreign_iff s _ (other_due 11 _ [] 15 (λ e. omega arith) none_15)

  pub slot_foreign_iff : (n axis slots : ℕ) → ((slot_spec s n axis slots).code ≡ 15) ↔ (AfterCalls s → ⊥)
  unfolding slot_spec
  slot_foreign_iff n axis slots = foreign_iff s _ (other_due 11 _ _ 15 (λ e. omega arith) (other_due 16 _ [] 15 (λ e. omega arith) none_15))
