-- Each answer of the counts, from the tests that lead to it; and what a genuine state's arrays count. Assumes nothing.
use mathlib.Core.Path.{◌≡◌, refl, sym, ap, ◌∙◌}
use mathlib.Core.Bool.{true, false, not}
use mathlib.Core.Logic.{◌↔◌}
use mathlib.Core.List.{List, []}
use Prim.Native.Nat.{ℕ, ◌+◌, ◌<◌}
use native.Mathlib.Omega.{arith}
use lib.Dec.{eqb}
use borrow.Author.Tests.{not-false}
use Rattle.numbers.specs.Count.{count}
use Rattle.plan.specs.Order.{first_due, unless_due}
use Rattle.plan.proofs.OrderLaws.{none_due, other_due, none_given}
use Rattle.points.specs.Run.{Run, index_at}
use Rattle.state.specs.State.{plan_in, run_in, genuine}
use Rattle.state.specs.declared.Sampler.{Sampler}
use Rattle.state.proofs.GenuineLaws.{Genuine, genuine_is}
use Rattle.state.proofs.StateLaws.{genuine_holds}
use Rattle.calls.specs.Calls.{foreign}
use Rattle.calls.specs.History.{AfterCalls}
use Rattle.calls.proofs.HistoryLaws.{foreign_iff}
use Rattle.window.specs.Counting.{inside_count, bound_of, cuts_of, is_window}
use Rattle.window.specs.Walking.{inside_from, bound_by}
use Rattle.window.proofs.PlanLaws.{count_held, bound_held}
use Rattle.window_count.specs.Call.{counted, count_spec}

module _ (s : Sampler) (w : List ℕ) where
  pub count_foreign : genuine s ≡ false → count_spec s w ≡ counted 15 0 0
  unfolding count_spec first_due unless_due
  count_foreign g = rw g refl

  -- 15 exactly where no accepted calls leave the state
  pub count_foreign_iff : ((count_spec s w).code ≡ 15) ↔ (AfterCalls s → ⊥)
  unfolding count_spec
  count_foreign_iff = foreign_iff s _ (other_due 14 (not (is_window w s.axes)) [] 15 (λ e. omega arith) (none_given 15 (λ e. omega arith)))

  -- where it is answered, the state is genuine and the window is one
  pub count_accepted : (count_spec s w).code ≡ 0 → (genuine s ≡ true) × (is_window w s.axes ≡ true)
  unfolding count_spec
  count_accepted z =
      let a = none_due 14 (foreign s) _ z in
      (not-false (genuine s) a.0, not-false (is_window w s.axes) (none_due 13 (not (is_window w s.axes)) [] a.1).0)

  module _ (g : genuine s ≡ true) where
    pub count_off : is_window w s.axes ≡ false → count_spec s w ≡ counted 14 0 0
    unfolding count_spec first_due unless_due
    count_off h = rw (g, h) refl

    pub count_done : is_window w s.axes ≡ true
        → count_spec s w ≡ counted 0 (inside_count (plan_in s) (cuts_of w s.axes) (run_in s)) (bound_of (plan_in s) s.count)
    unfolding count_spec first_due unless_due
    count_done h = rw (g, h) refl

    is : Genuine s
    is = genuine_is s g

    -- over any run of the state's plan, by its first indexes
    pub count_in_arrays : (r : Run) (n : ℕ → ℕ) → ((i t : ℕ) → i < s.axes → n i + t ≡ index_at r i t)
        → count (inside_from s.family s.bases s.directions w s.axes n) r.count ≡ inside_count (plan_in s) (cuts_of w s.axes) r
    count_in_arrays r n same =
        let h = genuine_holds is in
        count_held (plan_in s) h.family_is h.axes_is h.bases_is is.valid h.directions_is w r n (λ i t l. same i t (omega (arith, h.axes_is)))
        ∙ ap (λ (k : ℕ). inside_count (plan_in s) (cuts_of w k) r) (sym h.axes_is)

    pub bound_known : (N : ℕ) → bound_by (eqb s.family 2) s.bases N s.axes ≡ bound_of (plan_in s) N
    bound_known N = let h = genuine_holds is in bound_held (plan_in s) h.family_is h.axes_is h.bases_is is.valid N
