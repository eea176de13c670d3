-- How the main loop ends. On an opened run with room for a point it serves every point that is left, and ends at 12 with the last point in the
-- words; without room it ends at 13, which is no end of the day. Assumes nothing.
use mathlib.Core.Path.{◌≡◌, refl, sym, ap, ◌∙◌}
use mathlib.Core.Bool.{Bool, true, false}
use mathlib.Core.Logic.{⊎_elim}
use mathlib.Core.List.{List, ◌++◌}
use Prim.Native.Nat.{ℕ, zero, suc, ◌+◌, ◌-◌, ◌≤◌, ◌<◌}
use native.Mathlib.Omega.{arith}
use lib.Dec.{eqb, leb}
use lib.ListN.{length, drop, length-append, length-drop}
use lib.Seq.{drop_at}
use borrow.Author.Tests.{le-leb, lt-leb}
use Rattle.numbers.proofs.Cases.{lt_or_ge}
use Rattle.plan.specs.Plan.{Plan, Valid}
use Rattle.plan.specs.Order.{first_due}
use Rattle.points.specs.Point.{axis_count}
use Rattle.points.specs.Run.{Run, Opens, run_point}
use Rattle.points.proofs.RunLaws.{run_point_length}
use Rattle.state.specs.State.{both, made, plan_in, run_in, genuine}
use Rattle.state.specs.declared.Sampler.{Sampler}
use Rattle.state.proofs.GenuineLaws.{genuine_is}
use Rattle.calls.specs.Calls.{run_refusals}
use Rattle.calls.specs.declared.Moved.{Moved}
use Rattle.calls.proofs.CaseLaws.{run_foreign, run_no_room, step_refused}
use Rattle.calls.proofs.PointLaws.{axes_are}
use Rattle.calls.proofs.RunLaws.{step_at, step_over, step_over_words}
use Rattle.collector.specs.Serving.{Ended, ended, stepped, served_within, served, is_over}
use Rattle.collector.proofs.LoopLaws.{stop}

module _ (p : Plan) (v : Valid p) (r : Run) (fits : Opens p r) where
  -- the words after k points: the run's last point over them, or as they were
  unfoldable pub last_over : ℕ → List ℕ → List ℕ
  last_over zero words = words
  last_over (suc k) words = run_point p r (r.count - 1) ++ drop (axis_count p) words

  module _ (taken : ℕ) (words : List ℕ) (room : axis_count p ≤ length words) where
    abbrev written : List ℕ
    written = run_point p r taken ++ drop (axis_count p) words

    room_after : axis_count p ≤ length written
    room_after =
        omega (arith, length-append (run_point p r taken) (drop (axis_count p) words), run_point_length p r taken, length-drop (axis_count p) words)

    over_written : (k : ℕ) → suc k + taken ≡ r.count → last_over k written ≡ last_over (suc k) words
    unfolding last_over
    over_written zero e = ap (λ (n : ℕ). run_point p r n ++ drop (axis_count p) words) (omega arith)
    over_written (suc k) e =
        ap (λ (l : List ℕ). run_point p r (r.count - 1) ++ l)
        (drop_at (run_point p r taken) (drop (axis_count p) words) (axis_count p) (run_point_length p r taken))

    spent : taken ≡ r.count → stepped (made p r taken) words ≡ ended 12 (made p r r.count) words
    spent e = rw (step_over p v r fits words room taken e, step_over_words p v r fits words room taken e) (ap (λ (n : ℕ). ended 12 (made p r n) words) e)

  serves_within : (k taken : ℕ) (words : List ℕ) → axis_count p ≤ length words → k + taken ≡ r.count
      → served_within k (made p r taken) words ≡ ended 12 (made p r r.count) (last_over k words)
  unfolding served_within last_over
  serves_within zero taken words room e = spent taken words room (omega arith)
  serves_within (suc k) taken words room e =
      let d = step_at p v r fits words room taken (omega arith) in
      rw (d.0, d.1)
      (serves_within k (taken + 1) (written taken words room) (room_after taken words room) (omega arith)
      ∙ ap (ended 12 (made p r r.count)) (over_written taken words room k e))

  pub serves_out : (taken : ℕ) (words : List ℕ) → axis_count p ≤ length words → taken ≤ r.count
      → served (made p r taken) words ≡ ended 12 (made p r r.count) (last_over (r.count - taken) words)
  unfolding served made
  serves_out taken words room h = serves_within (r.count - taken) taken words room (omega arith)

-- ---- every state and every buffer

module _ (s : Sampler) (words : List ℕ) where
  -- a first step that is refused ends it, with nothing changed
  refused_end : (n : ℕ) → first_due (run_refusals s words) ≡ suc n → served s words ≡ ended (suc n) s words
  refused_end n e =
      let a = step_refused s words n e in
      sym
      (stop s words (suc n) s words
      (ap (λ (x : Moved). x.code) (sym a.0), ap (λ (x : Moved). x.state) (sym a.0), sym a.1) (λ z. omega (arith, z)))

  pub foreign_end : genuine s ≡ false → served s words ≡ ended 15 s words
  foreign_end g = refused_end 14 (run_foreign s words s.axes g)

  module _ (g : genuine s ≡ true) where
    -- without room nothing changes, whatever is left
    pub short_end : length words < s.axes → served s words ≡ ended 13 s words
    short_end h = refused_end 12 (run_no_room s words s.axes g h)

    -- with room every point is served
    pub day_end : s.axes ≤ length words → ((served s words).code ≡ 12) × ((served s words).state ≡ made (plan_in s) (run_in s) s.count)
    day_end h =
        let is = genuine_is s g in
        let e = ap (λ (t : Sampler). served t words) is.is
        ∙ serves_out (plan_in s) is.valid (run_in s) is.run.opens s.taken words (omega (arith, axes_are s g)) is.run.not_past in
        (ap (λ (x : Ended). x.code) e, ap (λ (x : Ended). x.state) e)

  -- The loop ends at 12 exactly where the state is genuine and a point has room.
  pub over_is : eqb (served s words).code 12 ≡ is_over s words
  unfolding is_over both
  over_is = go (genuine s) refl
    where
      go : (b : Bool) → genuine s ≡ b → eqb (served s words).code 12 ≡ both (genuine s) (leb s.axes (length words))
      go false g = rw (g, foreign_end g) refl
      go true g =
          ⊎_elim (λ h. rw (g, lt-leb s.axes (length words) h, short_end g h) refl)
          (λ h. rw (g, le-leb s.axes (length words) h, (day_end g h).0) refl) (lt_or_ge (length words) s.axes)

  -- by what the loop answers (n), leaves (t) and writes (z)
  pub day_is : (n : ℕ) (t : Sampler) (z : List ℕ) → ended n t z ≡ served s words
      → (eqb n 12 ≡ is_over s words) × (t ≡ (served s words).state) × (z ≡ (served s words).words)
  day_is n t z e = (ap (λ (x : Ended). eqb x.code 12) e ∙ over_is, ap (λ (x : Ended). x.state) e, ap (λ (x : Ended). x.words) e)
