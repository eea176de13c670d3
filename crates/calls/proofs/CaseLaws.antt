-- Each answer of each call, from the tests that lead to it. Assumes nothing.
use mathlib.Core.Path.{◌≡◌, refl, sym, ap, ◌∙◌}
use mathlib.Core.Bool.{Bool, true, false, not, and-eq-true_iff}
use mathlib.Core.List.{List, [], ◌++◌}
use Prim.Native.Nat.{ℕ, suc, ◌+◌, ◌-◌, ◌*◌, ◌^◌, ◌≤◌, ◌<◌}
use lib.Dec.{ltb, leb}
use lib.ListN.{length, drop}
use borrow.Author.Tests.{lt-ltb, le-ltb, le-leb, lt-leb, leb-true, leb-false, ltb-false, not-true, not-false}
use Rattle.bits.specs.Stream.{AllBelow}
use Rattle.plan.specs.Plan.{halton, sobol, spell}
use Rattle.plan.specs.Reading.{Reading, refused, accepted, read_plan}
use Rattle.plan.specs.Answer.{answer_of, plan_answered, Accepted}
use Rattle.plan.specs.declared.PlanRead.{PlanRead}
use Rattle.plan.proofs.AnswerLaws.{read_accepted}
use Rattle.plan.specs.Order.{Condition, first_due, unless_due}
use Rattle.plan.proofs.OrderLaws.{none_due}
use Rattle.points.specs.Point.{point_of, slot_of}
use Rattle.points.specs.Run.{Run, one_start, in_range, has_starts, run_point, run_points}
use Rattle.writer.specs.Parts.{no_room, Written}
use Rattle.writer.specs.declared.PlanWritten.{PlanWritten}
use Rattle.state.specs.State.{made, blank, plan_in, run_in, genuine}
use Rattle.state.specs.declared.Sampler.{Sampler}
use Rattle.calls.specs.Calls.{moved, blocked, slotted, split_start, spent, run_order, read_state, read_spec, write_spec, write_buf, open_spec, jump_spec, jump_buf, run_refusals, step_spec, step_buf, block_size, block_spec, block_buf, rows_refusals, rows_size, rows_spec, second_spec, is_from_one, has_slots, slot_spec}

-- ---- the test that every call makes first, negated in the code

pub foreign_of : (r t : Bool) → r ≡ t → r ≡ false → t ≡ false
foreign_of r t e h = sym e ∙ h

pub known_of : (r t : Bool) → r ≡ t → r ≡ true → t ≡ true
known_of r t e h = sym e ∙ h

-- ---- read

module _ (bytes : List ℕ) (a : PlanRead) (e : a ≡ answer_of (read_plan bytes)) where
  pub read_refused : (a.code ≡ 0 → ⊥) → read_spec bytes ≡ moved a.code blank
  unfolding read_spec read_state answer_of
  read_refused f = go (read_plan bytes) refl
    where
      go : (r : Reading) → read_plan bytes ≡ r → read_state (read_plan bytes) ≡ moved a.code blank
      go (refused n) h = rw (e, h) refl
      go (accepted (halton family bases)) h = absurd (f (ap (λ (x : PlanRead). x.code) (e ∙ ap answer_of h)))
      go (accepted (sobol axes)) h = absurd (f (ap (λ (x : PlanRead). x.code) (e ∙ ap answer_of h)))

  pub read_done : a.code ≡ 0 → AllBelow 256 bytes → (read_spec bytes ≡ moved 0 (made (plan_answered a) (one_start (plan_answered a) 0 0) 0)) × Accepted a
  unfolding read_spec read_state
  read_done z below =
      let w = read_accepted bytes below a e z in
      (rw w.0 refl, record { valid = w.1; is = e ∙ ap answer_of w.0 })

-- ---- write

module _ (s : Sampler) (buf : List ℕ) where
  pub write_foreign : genuine s ≡ false → (write_spec s buf ≡ record { code = 15; len = 0 }) × (write_buf s buf ≡ buf)
  unfolding write_spec write_buf first_due unless_due
  write_foreign g = (rw g refl, rw g refl)

  module _ (g : genuine s ≡ true) where
    pub write_no_room : length buf < length (spell (plan_in s)) → (write_spec s buf ≡ record { code = 13; len = 0 }) × (write_buf s buf ≡ buf)
    unfolding write_spec write_buf first_due unless_due
    write_no_room h = let r = lt-ltb (length buf) (length (spell (plan_in s))) h in (rw (g, r) refl, rw (g, r) refl)

    pub write_done : length (spell (plan_in s)) ≤ length buf
        → (write_spec s buf ≡ record { code = 0; len = length (spell (plan_in s)) }) × (write_buf s buf ≡ spell (plan_in s) ++ drop (length (spell (plan_in s))) buf)
    unfolding write_spec write_buf first_due unless_due
    write_done h = let r = le-ltb (length buf) (length (spell (plan_in s))) h in (rw (g, r) refl, rw (g, r) refl)

    -- what the writer of plans answers
    pub write_as_written : (r : PlanWritten) (new : List ℕ) → Written (plan_in s) buf new r.code r.len → (r ≡ write_spec s buf) × (new ≡ write_buf s buf)
    unfolding write_spec write_buf first_due unless_due
    write_as_written r new w = go (no_room (plan_in s) buf) refl
      where
        go : (b : Bool) → no_room (plan_in s) buf ≡ b → (r ≡ write_spec s buf) × (new ≡ write_buf s buf)
        go true e =
            let code : r.code ≡ 13 = w.answer ∙ rw e refl in
            let len : r.len ≡ 0 = w.reported ∙ rw e refl in
            let bytes : new ≡ buf = w.bytes ∙ rw e refl in
            rw (g, e) (λ j. record { code = code j; len = len j }, bytes)
        go false e =
            let code : r.code ≡ 0 = w.answer ∙ rw e refl in
            let len : r.len ≡ length (spell (plan_in s)) = w.reported ∙ rw e refl in
            let bytes : new ≡ spell (plan_in s) ++ drop (length (spell (plan_in s))) buf = w.bytes ∙ rw e refl in
            rw (g, e) (λ j. record { code = code j; len = len j }, bytes)

-- ---- open

module _ (s : Sampler) (r : Run) where
  pub open_foreign : genuine s ≡ false → open_spec s r ≡ moved 15 s
  unfolding open_spec first_due unless_due
  open_foreign g = rw g refl

  module _ (g : genuine s ≡ true) where
    pub open_out : in_range r ≡ false → open_spec s r ≡ moved 11 s
    unfolding open_spec first_due unless_due
    open_out h = rw (g, h) refl

    module _ (h : in_range r ≡ true) where
      pub open_split : has_starts s.family s.axes r.starts ≡ false → open_spec s r ≡ moved 17 s
      unfolding open_spec first_due unless_due
      open_split k = rw (g, h, k) refl

      pub open_done : has_starts s.family s.axes r.starts ≡ true → open_spec s r ≡ moved 0 (made (plan_in s) r 0)
      unfolding open_spec first_due unless_due
      open_done k = rw (g, h, k) refl

  -- where it is accepted, each test passes
  pub open_accepted : (open_spec s r).code ≡ 0
      → (genuine s ≡ true) × (in_range r ≡ true) × (has_starts s.family s.axes r.starts ≡ true)
  unfolding open_spec
  open_accepted z =
      let a = none_due 14 (not (genuine s)) _ z in
      let b = none_due 10 (not (in_range r)) _ a.1 in (
        not-false (genuine s) a.0,
        not-false (in_range r) b.0,
        not-false (has_starts s.family s.axes r.starts) (none_due 16 (split_start s r) [] b.1).0,
      )

-- ---- jump

module _ (s : Sampler) (n : ℕ) (buf : List ℕ) where
  pub jump_foreign : genuine s ≡ false → (jump_spec s n buf ≡ record { code = 15 }) × (jump_buf s n buf ≡ buf)
  unfolding jump_spec jump_buf first_due unless_due
  jump_foreign g = (rw g refl, rw g refl)

  module _ (g : genuine s ≡ true) where
    pub jump_out : 2 ^ 32 ≤ n → (jump_spec s n buf ≡ record { code = 11 }) × (jump_buf s n buf ≡ buf)
    unfolding jump_spec jump_buf first_due unless_due
    jump_out h = let l = le-leb (2 ^ 32) n h in (rw (g, l) refl, rw (g, l) refl)

    pub jump_no_room : n < 2 ^ 32 → length buf < s.axes → (jump_spec s n buf ≡ record { code = 13 }) × (jump_buf s n buf ≡ buf)
    unfolding jump_spec jump_buf first_due unless_due
    jump_no_room h k =
        let l = lt-leb (2 ^ 32) n h in
        let r = lt-ltb (length buf) s.axes k in (rw (g, l, r) refl, rw (g, l, r) refl)

    pub jump_done : n < 2 ^ 32 → s.axes ≤ length buf
        → (jump_spec s n buf ≡ record { code = 0 }) × (jump_buf s n buf ≡ point_of (plan_in s) n ++ drop s.axes buf)
    unfolding jump_spec jump_buf first_due unless_due
    jump_done h k =
        let l = lt-leb (2 ^ 32) n h in
        let r = le-ltb (length buf) s.axes k in (rw (g, l, r) refl, rw (g, l, r) refl)

-- ---- step and block

-- their order, by what the test of the state answers and the words of a row
abbrev pub order_by : Bool → Sampler → List ℕ → ℕ → List Condition
order_by known s buf width = run_order (not known) (spent s) (ltb (length buf) width)

module _ {known : Bool} (s : Sampler) (buf : List ℕ) (width : ℕ) where
  pub run_foreign : known ≡ false → first_due (order_by known s buf width) ≡ 15
  unfolding first_due
  run_foreign g = rw g refl

  module _ (g : known ≡ true) where
    pub run_no_room : length buf < width → first_due (order_by known s buf width) ≡ 13
    unfolding first_due
    run_no_room r = rw (g, lt-ltb (length buf) width r) refl

    pub run_spent : s.count ≤ s.taken → width ≤ length buf → first_due (order_by known s buf width) ≡ 12
    unfolding first_due
    run_spent h r = rw (g, le-leb s.count s.taken h, le-ltb (length buf) width r) refl

    pub run_clear : s.taken < s.count → width ≤ length buf → first_due (order_by known s buf width) ≡ 0
    unfolding first_due
    run_clear h r = rw (g, lt-leb s.count s.taken h, le-ltb (length buf) width r) refl

-- where none is due, each test passes
pub run_cleared : (known : Bool) (s : Sampler) (buf : List ℕ) (width : ℕ) → first_due (order_by known s buf width) ≡ 0
    → (known ≡ true) × (s.taken < s.count) × (width ≤ length buf)
run_cleared known s buf width e =
    let a = none_due 14 (not known) _ e in
    let b = none_due 12 (ltb (length buf) width) _ a.1 in (
      not-false known a.0,
      leb-false s.count s.taken (none_due 11 (spent s) [] b.1).0,
      ltb-false (length buf) width b.0,
    )

module _ (s : Sampler) (buf : List ℕ) where
  module _ (n : ℕ) (e : first_due (run_refusals s buf) ≡ suc n) where
    pub step_refused : (step_spec s buf ≡ moved (suc n) s) × (step_buf s buf ≡ buf)
    unfolding step_spec step_buf unless_due
    step_refused = (rw e refl, rw e refl)

    pub block_refused : (block_spec s buf ≡ blocked (suc n) 0 s) × (block_buf s buf ≡ buf)
    unfolding block_spec block_buf unless_due
    block_refused = (rw e refl, rw e refl)

  module _ (e : first_due (run_refusals s buf) ≡ 0) where
    pub step_done : (step_spec s buf ≡ moved 0 (made (plan_in s) (run_in s) (s.taken + 1)))
        × (step_buf s buf ≡ run_point (plan_in s) (run_in s) s.taken ++ drop s.axes buf)
    unfolding step_spec step_buf unless_due
    step_done = (rw e refl, rw e refl)

    pub block_done : (block_spec s buf ≡ blocked 0 (block_size s buf) (made (plan_in s) (run_in s) (s.taken + block_size s buf)))
        × (block_buf s buf ≡ run_points (plan_in s) (run_in s) s.taken (block_size s buf) ++ drop (block_size s buf * s.axes) buf)
    unfolding block_spec block_buf unless_due
    block_done = (rw e refl, rw e refl)

-- ---- rows

module _ (lead : ℕ) (s : Sampler) (buf : List ℕ) where
  pub rows_refused : (n : ℕ) → first_due (rows_refusals lead s buf) ≡ suc n → rows_spec lead s buf ≡ blocked (suc n) 0 s
  unfolding rows_spec unless_due
  rows_refused n e = rw e refl

  pub rows_done : first_due (rows_refusals lead s buf) ≡ 0
      → rows_spec lead s buf ≡ blocked 0 (rows_size lead s buf) (made (plan_in s) (run_in s) (s.taken + rows_size lead s buf))
  unfolding rows_spec unless_due
  rows_done e = rw e refl

-- ---- second

module _ (s : Sampler) (n : ℕ) where
  pub second_foreign : genuine s ≡ false → second_spec s n ≡ record { code = 15; second = 0 }
  unfolding second_spec first_due unless_due
  second_foreign g = rw g refl

  module _ (g : genuine s ≡ true) where
    pub second_out : 2 ^ 32 ≤ n → second_spec s n ≡ record { code = 11; second = 0 }
    unfolding second_spec first_due unless_due
    second_out h = rw (g, le-leb (2 ^ 32) n h) refl

    pub second_done : n < 2 ^ 32 → second_spec s n ≡ record { code = 0; second = slot_of (plan_in s) 86400 n 0 }
    unfolding second_spec first_due unless_due
    second_done h = rw (g, lt-leb (2 ^ 32) n h) refl

-- ---- slot

module _ (axes axis slots : ℕ) where
  -- the tests of the code, one after another
  pub slots_before : axis < 1 → has_slots axes axis slots ≡ false
  unfolding has_slots
  slots_before h = rw (lt-leb 1 axis h) refl

  pub slots_past : 1 ≤ axis → axes < axis → has_slots axes axis slots ≡ false
  unfolding has_slots
  slots_past l h = rw (le-leb 1 axis l, lt-leb axis axes h) refl

  pub slots_none : 1 ≤ axis → axis ≤ axes → slots < 1 → has_slots axes axis slots ≡ false
  unfolding has_slots
  slots_none l m h = rw (le-leb 1 axis l, le-leb axis axes m, lt-leb 1 slots h) refl

  pub slots_by : 1 ≤ axis → axis ≤ axes → 1 ≤ slots → leb slots (2 ^ 24) ≡ has_slots axes axis slots
  unfolding has_slots
  slots_by l m h = rw (le-leb 1 axis l, le-leb axis axes m, le-leb 1 slots h) refl

  pub slots_range : has_slots axes axis slots ≡ true → (1 ≤ axis) × (axis ≤ axes) × (1 ≤ slots) × (slots ≤ 2 ^ 24)
  unfolding has_slots
  slots_range e =
      let a = (and-eq-true_iff (is_from_one axes axis) (is_from_one (2 ^ 24) slots)).0 e in
      let b = (and-eq-true_iff (leb 1 axis) (leb axis axes)).0 a.0 in
      let c = (and-eq-true_iff (leb 1 slots) (leb slots (2 ^ 24))).0 a.1 in
      (leb-true 1 axis b.0, leb-true axis axes b.1, leb-true 1 slots c.0, leb-true slots (2 ^ 24) c.1)

  pub slots_taken : 1 ≤ axis → axis ≤ axes → 1 ≤ slots → slots ≤ 2 ^ 24 → has_slots axes axis slots ≡ true
  slots_taken l m h k = sym (slots_by l m h) ∙ le-leb slots (2 ^ 24) k

module _ (s : Sampler) (n axis slots : ℕ) where
  pub slot_foreign : genuine s ≡ false → slot_spec s n axis slots ≡ slotted 15 0
  unfolding slot_spec first_due unless_due
  slot_foreign g = rw g refl

  -- where it is answered, each test passes
  pub slot_accepted : (slot_spec s n axis slots).code ≡ 0 → (genuine s ≡ true) × (n < 2 ^ 32) × (has_slots s.axes axis slots ≡ true)
  unfolding slot_spec
  slot_accepted z =
      let a = none_due 14 (not (genuine s)) _ z in
      let b = none_due 10 (leb (2 ^ 32) n) _ a.1 in (
        not-false (genuine s) a.0,
        leb-false (2 ^ 32) n b.0,
        not-false (has_slots s.axes axis slots) (none_due 15 (not (has_slots s.axes axis slots)) [] b.1).0,
      )

  module _ (g : genuine s ≡ true) where
    pub slot_out : 2 ^ 32 ≤ n → slot_spec s n axis slots ≡ slotted 11 0
    unfolding slot_spec first_due unless_due
    slot_out h = rw (g, le-leb (2 ^ 32) n h) refl

    pub slot_off : n < 2 ^ 32 → has_slots s.axes axis slots ≡ false → slot_spec s n axis slots ≡ slotted 16 0
    unfolding slot_spec first_due unless_due
    slot_off h k = rw (g, lt-leb (2 ^ 32) n h, k) refl

    pub slot_done : n < 2 ^ 32 → has_slots s.axes axis slots ≡ true
        → slot_spec s n axis slots ≡ slotted 0 (slot_of (plan_in s) slots n (axis - 1))
    unfolding slot_spec first_due unless_due
    slot_done h k = rw (g, lt-leb (2 ^ 32) n h, k) refl
