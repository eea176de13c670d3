-- A window count that was answered, of a run or of a day set, is of a window of at most seven cuts, has no more points inside than there are, and
-- there are at most 2^32. Assumes nothing.
use mathlib.Core.Path.{◌≡◌, sym, ap, subst, ◌∙◌}
use mathlib.Core.Bool.{true}
use mathlib.Core.List.{List}
use Prim.Native.Nat.{ℕ, ◌/◌, ◌^◌, ◌≤◌}
use native.Mathlib.Omega.{arith}
use lib.ListN.{length}
use Rattle.points.proofs.RunLaws.{opens_count}
use Rattle.state.specs.State.{plan_in, run_in}
use Rattle.state.specs.declared.Sampler.{Sampler}
use Rattle.state.proofs.GenuineLaws.{genuine_is}
use Rattle.calls.proofs.PointLaws.{axes_few}
use Rattle.day_set.specs.DaySet.{day_width}
use Rattle.day_set.specs.declared.DaySet.{DaySet}
use Rattle.window.specs.Counting.{step_inside, inside_count, cuts_of, is_window}
use Rattle.window.proofs.RangeLaws.{window_parts}
use Rattle.numbers.proofs.CountLaws.{count_le}
use Rattle.window_count.specs.Call.{count_spec}
use Rattle.window_count.specs.declared.Counted.{Counted}
use Rattle.window_count.proofs.CaseLaws.{count_accepted, count_done}
use Rattle.day_count.specs.Count.{day_count_spec}
use Rattle.day_count.proofs.EndLaws.{day_answered}
use Rattle.weights.specs.Answered.{Answered}

-- of a window of k cuts
fits : (s : Sampler) (w : List ℕ) (r : Counted) (k : ℕ) → (r.inside ≤ s.count) × (s.count ≤ 2 ^ 32) × (k ≤ 7) × (is_window w k ≡ true) → Answered s w r
fits s w r k a =
    let e : k ≡ length w / 2 = omega (arith, (window_parts w k a.3).0) in
    record { inside = a.0; few = a.1; cuts = omega (arith, a.2); window = subst (λ (i : ℕ). is_window w i ≡ true) e a.3 }

pub run_answered : (s : Sampler) (w : List ℕ) (r : Counted) → r ≡ count_spec s w → r.code ≡ 0 → Answered s w r
unfolding inside_count
run_answered s w r e z =
    let a = count_accepted s w (ap (λ (x : Counted). x.code) (sym e) ∙ z) in
    let g = genuine_is s a.0 in
    fits s w r s.axes (
      omega (arith, ap (λ (x : Counted). x.inside) (e ∙ count_done s w a.0 a.1), count_le (step_inside (plan_in s) (cuts_of w s.axes) (run_in s)) s.count),
      opens_count g.run.opens g.valid,
      omega (arith, axes_few s a.0),
      a.1,
    )

pub set_answered : (d : DaySet) (w : List ℕ) (r : Counted) → r ≡ day_count_spec d w → r.code ≡ 0 → Answered d.run w r
set_answered d w r e z = fits d.run w r (day_width d) (day_answered d w r e z)
