-- Each answer of the day set's count, from the tests that lead to it; and what the arrays count over its first points. Assumes nothing.
use mathlib.Core.Path.{◌≡◌, refl, sym, ◌∙◌}
use mathlib.Core.Bool.{true, false, not, cond}
use mathlib.Core.Logic.{◌↔◌}
use mathlib.Core.List.{List, []}
use Prim.Native.Nat.{ℕ, ◌+◌, ◌^◌, ◌<◌}
use native.Mathlib.Omega.{arith}
use lib.Dec.{eqb}
use lib.ListN.{drop, replicate}
use borrow.Author.Tests.{eq-eqb, ne_eqb, not-false}
use Rattle.numbers.specs.Count.{count}
use Rattle.plan.specs.Plan.{Plan, halton, sobol, Valid}
use Rattle.plan.specs.Order.{first_due, unless_due}
use Rattle.plan.proofs.OrderLaws.{none_due, other_due}
use Rattle.points.specs.Arrays.{family_of, of_axis}
use Rattle.points.specs.Run.{one_start}
use Rattle.points.proofs.PointLaws.{axis_count_lem}
use Rattle.points.proofs.RunLaws.{opens_count, from_padded, one_zeros}
use Rattle.state.proofs.GenuineLaws.{Genuine, genuine_is}
use Rattle.state.proofs.StateLaws.{genuine_holds}
use Rattle.calls.proofs.HistoryLaws.{none_15}
use Rattle.day_set.specs.DaySet.{day_run, day_plan, day_size, day_width, genuine_day}
use Rattle.day_set.specs.Calls.{foreign_day}
use Rattle.day_set.specs.History.{DayAfterCalls}
use Rattle.day_set.specs.declared.DaySet.{DaySet}
use Rattle.day_set.proofs.CaseLaws.{day_is}
use Rattle.day_set.proofs.HistoryLaws.{day_foreign_iff}
use Rattle.window.specs.Counting.{u_of, q_of, bound_of, cut_at, cuts_of, is_window}
use Rattle.window.specs.Walking.{inside_from, bound_by}
use Rattle.window.proofs.PlanLaws.{cuts_at, bound_of_fits, bound_held}
use Rattle.window.proofs.RangeLaws.{window_cuts}
use Rattle.window.proofs.LeadingLaws.{cuts_rest}
use Rattle.inside_count.specs.Flagging.{cut_limit}
use Rattle.window_count.specs.Call.{counted}
use Rattle.window_count.proofs.CaseLaws.{count_in_arrays}
use Rattle.day_count.specs.Count.{day_inside_count, day_bound_of, day_count_spec}
use Rattle.day_count.proofs.FirstLaws.{day_first}

module _ (d : DaySet) (w : List ℕ) where
  pub day_count_foreign : genuine_day d ≡ false → day_count_spec d w ≡ counted 15 0 0
  unfolding day_count_spec first_due unless_due
  day_count_foreign g = rw g refl

  -- 15 exactly where no accepted calls leave the day set
  pub day_count_foreign_iff : ((day_count_spec d w).code ≡ 15) ↔ (DayAfterCalls d → ⊥)
  unfolding day_count_spec
  day_count_foreign_iff = day_foreign_iff d _ (other_due 14 _ [] 15 (λ e. omega arith) none_15)

  -- where it is answered, the day set is genuine and the window is one
  pub day_count_accepted : (day_count_spec d w).code ≡ 0 → (genuine_day d ≡ true) × (is_window w (day_width d) ≡ true)
  unfolding day_count_spec
  day_count_accepted z =
      let a = none_due 14 (foreign_day d) _ z in
      (not-false (genuine_day d) a.0, not-false (is_window w (day_width d)) (none_due 13 (not (is_window w (day_width d))) [] a.1).0)

  module _ (g : genuine_day d ≡ true) where
    pub day_count_off : is_window w (day_width d) ≡ false → day_count_spec d w ≡ counted 14 0 0
    unfolding day_count_spec first_due unless_due
    day_count_off h = rw (g, h) refl

    module _ (h : is_window w (day_width d) ≡ true) where
      pub day_count_done : day_count_spec d w ≡ counted 0 (day_inside_count (day_plan d) (cuts_of w (day_width d)) (day_size d)) (day_bound_of (day_plan d) (day_size d))
      unfolding day_count_spec first_due unless_due
      day_count_done = rw (g, h) refl

      -- of the points that the leading cut takes, by the other cuts
      pub day_count_in_arrays : {first : ℕ} {others : List ℕ} → first ≡ cut_limit (cut_at w 0).u (cut_at w 0).q (day_size d) → others ≡ drop 2 w
          → count (inside_from d.run.family d.run.bases d.run.directions others d.run.axes (of_axis (replicate 6 0))) first
          ≡ day_inside_count (day_plan d) (cuts_of w (day_width d)) (day_size d)
      unfolding one_start
      day_count_in_arrays e f =
          let c = window_cuts w (day_width d) h in
          let l = cut_at w 0 in
          rw (e, f) (count_in_arrays d.run (drop 2 w) (day_is d g).1 (day_run (day_plan d) (cut_limit l.u l.q (day_size d))) _ (λ i t b. from_padded _ (one_zeros (day_plan d) 0 (cut_limit l.u l.q (day_size d)) (axis_count_lem (day_plan d) (genuine_is d.run (day_is d g).1).valid).1 refl) i t)
          ∙ sym (day_first (day_plan d) (cuts_of w (day_width d)) (day_size d) (c.q_pos 0 (omega arith)) (c.u_le 0 (omega arith))
          ∙ rw (cuts_rest w d.run.axes, cuts_at w (day_width d) 0 (omega arith), u_of, q_of) refl))

-- ---- the bound

of_plan : (p : Plan) → Valid p → (family : ℕ) → family ≡ family_of p → (N : ℕ) → cond (eqb family 2) 0 (bound_of p N + 1) ≡ day_bound_of p N
unfolding Valid family_of day_bound_of
of_plan (halton f bases) v family e N = rw (ne_eqb family 2 (λ k. omega arith)) refl
of_plan (sobol axes) v family e N = rw (eq-eqb family 2 e) refl

-- the plan's, by the arrays of a genuine day set: one more is a word
module _ (d : DaySet) (g : genuine_day d ≡ true) {b : ℕ} (e : b ≡ bound_by (eqb d.run.family 2) d.run.bases (day_size d) d.run.axes) where
  is : Genuine d.run
  is = genuine_is d.run (day_is d g).1

  plan_bound : b ≡ bound_of (day_plan d) (day_size d)
  plan_bound = let h = genuine_holds is in e ∙ bound_held (day_plan d) h.family_is h.axes_is h.bases_is is.valid (day_size d)

  pub day_bound_fits : b < 2 ^ 63
  day_bound_fits = rw plan_bound (bound_of_fits (day_plan d) is.valid (day_size d) (opens_count is.run.opens is.valid))

  pub day_bound_is : cond (eqb d.run.family 2) 0 (b + 1) ≡ day_bound_of (day_plan d) (day_size d)
  day_bound_is = rw plan_bound (of_plan (day_plan d) is.valid d.run.family (genuine_holds is).family_is (day_size d))
