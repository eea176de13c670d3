-- One start repeated is the run as it was before 02's K6: its opening, its steps and its blocks answer the same, and its points are those of the
-- indexes from the start on. Assumes nothing.
use mathlib.Core.Path.{◌≡◌, refl, sym, ap, ap₂, ◌∙◌, subst}
use mathlib.Core.Bool.{true, false}
use mathlib.Core.Logic.{◌⊎◌, inl, inr}
use mathlib.Core.List.{List, [], ◌∷◌, ◌++◌}
use Prim.Native.Nat.{ℕ, zero, suc, ◌+◌, ◌-◌, ◌*◌, ◌/◌, ◌^◌, ◌≤◌}
use native.Mathlib.Nat.{add_assoc, min-le_left}
use native.Mathlib.Omega.{arith}
use lib.ListN.{length, drop}
use Rattle.numbers.specs.Listed.{joined}
use Rattle.numbers.proofs.Cases.{true_or_false}
use Rattle.bits.specs.Stream.{AllBelow}
use Rattle.plan.specs.Order.{first_due, unless_due}
use Rattle.plan.specs.Plan.{Plan, Valid}
use Rattle.points.specs.Point.{point_of}
use Rattle.points.specs.Run.{Run, one_start, in_range, start_in_range, run_point}
use Rattle.points.proofs.PointLaws.{axis_count_lem}
use Rattle.points.proofs.RunLaws.{start_is, opens_long, one_range, one_has, one_opens, one_point}
use Rattle.state.specs.State.{made, plan_in, run_in, genuine}
use Rattle.state.specs.declared.Sampler.{Sampler}
use Rattle.state.proofs.PlanLaws.{plan_in_made, run_in_made}
use Rattle.state.proofs.GenuineLaws.{Genuine, genuine_is, made_genuine}
use Rattle.calls.specs.Calls.{moved, blocked, read_spec, open_spec, jump_buf, run_refusals, step_spec, step_buf, block_size, block_spec, block_buf}
use Rattle.calls.specs.History.{Request, step, block, moved_by, all_moved, state_after}
use Rattle.calls.specs.OneStart.{one_open, one_step, one_step_buf, one_block, one_block_buf, HasOne, AsBefore}
use Rattle.calls.proofs.CaseLaws.{open_foreign, open_out, open_accepted, open_done, jump_done, run_cleared, step_refused, step_done, block_refused, block_done}
use Rattle.calls.proofs.PointLaws.{axes_are, axes_few, known_has}
use Rattle.calls.proofs.HistoryLaws.{read_accepted}

-- ---- the opening

module _ (s : Sampler) (start count : ℕ) where
  abbrev one : Run
  one = one_start (plan_in s) start count

  pub one_opening : open_spec s (one_start (plan_in s) start count) ≡ one_open s start count
  unfolding one_open first_due unless_due
  one_opening = go (true_or_false (genuine s)) (true_or_false (start_in_range start count))
    where
      range : genuine s ≡ true → in_range one ≡ start_in_range start count
      range g = one_range (plan_in s) start count (omega (arith, axes_are s g, (axes_few s g).0))

      go : (genuine s ≡ true) ⊎ (genuine s ≡ false) → (start_in_range start count ≡ true) ⊎ (start_in_range start count ≡ false)
          → open_spec s one ≡ one_open s start count
      go (inr f) t = open_foreign s one f ∙ rw f refl
      go (inl g) (inr f) = open_out s one g (range g ∙ f) ∙ rw (g, f) refl
      go (inl g) (inl t) =
          open_done s one g (range g ∙ t) (known_has s g (record { is_in_range = range g ∙ t; has_starts_lem = one_has (plan_in s) start count }))
          ∙ rw (g, t) refl

-- ---- the states

module _ (p : Plan) (v : Valid p) (start count taken : ℕ) (range : start + count ≤ 2 ^ 32) (few : taken ≤ count) where
  abbrev run : Run
  run = one_start p start count

  one_made : HasOne start (made p run taken)
  one_made =
      let o = one_opens p start count (axis_count_lem p v).0 range in
      let same : plan_in (made p run taken) ≡ p = plan_in_made p v run taken in
      record {
        known = made_genuine p v run taken (record { opens = o; not_past = unfold one_start in few });
        one = run_in_made p run (opens_long o) taken ∙ ap₂ (λ (q : Plan) (n : ℕ). one_start q start n) (sym same) (unfold made one_start in refl);
      }

-- an accepted opening with one start leaves such a state
pub one_opened : (s : Sampler) (start count : ℕ) → (open_spec s (one_start (plan_in s) start count)).code ≡ 0
    → HasOne start (open_spec s (one_start (plan_in s) start count)).state
one_opened s start count z =
    let r = one_start (plan_in s) start count in
    let a = open_accepted s r z in
    let g = genuine_is s a.0 in
    let pos = (axis_count_lem (plan_in s) g.valid).0 in
    subst (HasOne start) (sym (ap (λ (x : _). x.state) (open_done s r a.0 a.1 a.2)))
    (one_made (plan_in s) g.valid start count 0 (start_is start count (sym (one_range (plan_in s) start count pos) ∙ a.1)) (omega arith))

-- ---- step and block

joined_from : (f g : ℕ → List ℕ) (m : ℕ) → ((t : ℕ) → f t ≡ g (m + t)) → (t k : ℕ) → joined f t k ≡ joined g (m + t) k
unfolding joined
joined_from f g m same t zero = refl
joined_from f g m same t (suc k) = ap₂ ◌++◌ (joined_from f g m same t k) (same (t + k) ∙ ap g (sym (add_assoc m t k)))

module _ (start : ℕ) (s : Sampler) (h : HasOne start s) where
  abbrev p : Plan
  p = plan_in s

  is : Genuine s
  is = genuine_is s h.known

  point : (t : ℕ) → run_point p (run_in s) t ≡ point_of p (start + t)
  point t = ap (λ (r : Run). run_point p r t) h.one ∙ one_point p start s.count t

  range : start + s.count ≤ 2 ^ 32
  range =
      let pos = (axis_count_lem p is.valid).0 in
      start_is start s.count (sym (one_range p start s.count pos) ∙ ap in_range (sym h.one) ∙ is.run.opens.is_in_range)

  moved_on : (taken : ℕ) → taken ≤ s.count → HasOne start (made p (run_in s) taken)
  moved_on taken few = rw h.one (one_made p is.valid start s.count taken range few)

  -- where the refusal is due, and where none is
  stepped : (buf : List ℕ) → HasOne start (step_spec s buf).state
  stepped buf = go (first_due (run_refusals s buf)) refl
    where
      go : (n : ℕ) → first_due (run_refusals s buf) ≡ n → HasOne start (step_spec s buf).state
      go (suc n) e = subst (HasOne start) (sym (ap (λ (x : _). x.state) (step_refused s buf n e).0)) h
      go zero e =
          let c = run_cleared (genuine s) s buf s.axes e in
          subst (HasOne start) (sym (ap (λ (x : _). x.state) (step_done s buf e).0)) (moved_on (s.taken + 1) (omega (arith, c.1)))

  filled : (buf : List ℕ) → HasOne start (block_spec s buf).state
  filled buf = go (first_due (run_refusals s buf)) refl
    where
      go : (n : ℕ) → first_due (run_refusals s buf) ≡ n → HasOne start (block_spec s buf).state
      go (suc n) e = subst (HasOne start) (sym (ap (λ (x : _). x.state) (block_refused s buf n e).0)) h
      go zero e =
          let c = run_cleared (genuine s) s buf s.axes e in
          let few = min-le_left (s.count - s.taken) (length buf / s.axes) in
          subst (HasOne start) (sym (ap (λ (x : _). x.state) (block_done s buf e).0)) (moved_on (s.taken + block_size s buf) (omega (arith, c.1)))

  jump : (buf : List ℕ) → (step_spec s buf).code ≡ 0 → jump_buf s (start + s.taken) buf ≡ step_buf s buf
  unfolding step_spec
  jump buf z =
      let c = run_cleared (genuine s) s buf s.axes z in
      (jump_done s (start + s.taken) buf c.0 (omega (arith, c.1, range)) c.2).1
      ∙ ap (λ (x : List ℕ). x ++ drop s.axes buf) (sym (point s.taken)) ∙ sym (step_done s buf z).1

  pub as_before : AsBefore start s
  unfolding step_spec step_buf block_spec block_buf one_step one_step_buf one_block one_block_buf
  as_before =
      record {
        step = λ buf. (
          ap (λ (r : Run). moved (first_due (run_refusals s buf)) (unless_due (run_refusals s buf) (made p r (s.taken + 1)) s)) h.one,
          ap (λ (x : List ℕ). unless_due (run_refusals s buf) (x ++ drop s.axes buf) buf) (point s.taken),
        );
        stepped = stepped;
        block = λ buf. (
          ap (λ (r : Run). blocked (first_due (run_refusals s buf)) (unless_due (run_refusals s buf) (block_size s buf) 0) (unless_due (run_refusals s buf) (made p r (s.taken + block_size s buf)) s)) h.one,
          ap (λ (x : List ℕ). unless_due (run_refusals s buf) (x ++ drop (block_size s buf * s.axes) buf) buf)
              (joined_from (run_point p (run_in s)) (point_of p) start point s.taken (block_size s buf)),
        );
        filled = filled;
        jump = jump;
      }

-- any steps and blocks after it leave such a state
pub one_served : (start : ℕ) (requests : List Request) (s : Sampler) → HasOne start s → HasOne start (state_after requests s)
unfolding all_moved moved_by
one_served start [] s h = h
one_served start (step buf ∷ requests) s h = one_served start requests (step_spec s buf).state (stepped start s h buf)
one_served start (block buf ∷ requests) s h = one_served start requests (block_spec s buf).state (filled start s h buf)

-- and an accepted reading leaves one, from 0 on
pub one_read : (bytes : List ℕ) → AllBelow 256 bytes → (read_spec bytes).code ≡ 0 → HasOne 0 (read_spec bytes).state
one_read bytes below z =
    let a = read_accepted bytes below z in subst (HasOne 0) (sym a.3) (one_made a.0 a.1 0 0 0 (omega arith) (omega arith))
