-- Counting by strips about the call's own answer: of a Halton-family plan, the class counts of the combinations of digit strips add up to it.
-- Assumes nothing.
use mathlib.Core.Path.{◌≡◌, sym, ◌∙◌}
use mathlib.Core.Bool.{true}
use mathlib.Core.List.{List}
use Prim.Native.Nat.{ℕ}
use lib.ListN.{length}
use Rattle.numbers.specs.Count.{count}
use Rattle.discrepancy.specs.Bound.{CutAxis, inside, SoundAxes}
use Rattle.plan.specs.Plan.{Plan, halton, sobol, Valid}
use Rattle.points.specs.Point.{axis_count}
use Rattle.points.specs.Run.{Run, Opens}
use Rattle.points.specs.Arrays.{family_of, bases_array}
use Rattle.state.specs.State.{plan_in, run_in}
use Rattle.state.specs.declared.Sampler.{Sampler}
use Rattle.state.proofs.GenuineLaws.{genuine_is}
use Rattle.state.proofs.StateLaws.{Holds, genuine_holds}
use Rattle.window.specs.Counting.{run_axes, inside_count, cuts_of, is_window}
use Rattle.window.proofs.Demand3.{inside_axes, axes_sound}
use Rattle.window.proofs.PlanLaws.{axes_padded}
use Rattle.window.proofs.RangeLaws.{window_cuts}
use Rattle.strips.specs.Strips.{sum_combinations, sum_classes}
use Rattle.strips.proofs.StripLaws.{combinations_add_up}
use Rattle.strips.proofs.CombinationLaws.{classes_add_up}
use Rattle.window_count.specs.Call.{count_spec}
use Rattle.window_count.proofs.CaseLaws.{count_accepted, count_done}

-- arrays that are a plan's: their axes are sound, and S is the number inside on them
plan_axes : (p : Plan) {family s : ℕ} {bases vs : List ℕ} → Holds p family s bases vs → (family ≡ 2 → ⊥) → Valid p
    → (r : Run) → Opens p r → (w : List ℕ) → is_window w s ≡ true → let ax = run_axes family bases (cuts_of w s) r in
    SoundAxes r.count ax s × (count (inside ax s) r.count ≡ inside_count p (cuts_of w s) r)
unfolding family_of axis_count bases_array
plan_axes (halton family bases) h f v r fits w takes =
    let cuts = cuts_of w (length bases) in
    rw (h.family_is, h.axes_is, h.bases_is, axes_padded family bases cuts r)
    (axes_sound family bases cuts r v fits (window_cuts w (length bases) (rw h.axes_is at takes)), inside_axes family bases cuts r)
plan_axes (sobol axes) h f v r fits w takes = absurd (f h.family_is)

module _ (s : Sampler) (w : List ℕ) where
  -- the state's axes, with the window's cuts
  abbrev axes : ℕ → CutAxis
  axes = run_axes s.family s.bases (cuts_of w s.axes) (run_in s)

  module _ (z : (count_spec s w).code ≡ 0) (f : s.family ≡ 2 → ⊥) where
    by_axes : SoundAxes s.count axes s.axes × (count (inside axes s.axes) s.count ≡ (count_spec s w).inside)
    by_axes =
        let a = count_accepted s w z in
        let g = genuine_is s a.0 in
        rw (count_done s w a.0 a.1) (plan_axes (plan_in s) (genuine_holds g) f g.valid (run_in s) g.run.opens w a.1)

    -- Whatever the state and the window: a count with code 0 on a Halton-family plan is the sum, over all combinations of strips of the state's
    -- axes, of the number of the run's steps in all strips of the combination;
    pub strips_answered : (count_spec s w).inside
        ≡ sum_combinations (run_axes s.family s.bases (cuts_of w s.axes) (run_in s)) s.count s.axes (λ t. true)
    strips_answered = sym (combinations_add_up s.count axes s.axes by_axes.0.sound ∙ by_axes.1)

    -- and each of these is the size of a residue class.
    pub classes_answered : (count_spec s w).inside
        ≡ sum_classes (run_axes s.family s.bases (cuts_of w s.axes) (run_in s)) s.count s.axes 1 0
    classes_answered = sym (classes_add_up s.axes by_axes.0 ∙ by_axes.1)
