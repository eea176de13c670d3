-- One start repeated is the run as it was before 02's K6: the count answers the same. Assumes nothing.
use mathlib.Core.Path.{◌≡◌, refl, ap, ◌∙◌}
use mathlib.Core.List.{List}
use Prim.Native.Nat.{ℕ, ◌+◌, ◌<◌}
use lib.ListN.{get_or}
use Rattle.numbers.specs.Count.{count}
use Rattle.numbers.proofs.CountLaws.{count_ext}
use Rattle.numbers.proofs.EachLaws.{each_ext}
use Rattle.plan.specs.Order.{first_due, unless_due}
use Rattle.plan.specs.Plan.{Plan}
use Rattle.points.specs.Point.{axis_count, numerator_of, denominator_of}
use Rattle.points.specs.Run.{one_start, run_numerator}
use Rattle.points.proofs.RunLaws.{one_index}
use Rattle.state.specs.State.{plan_in, run_in}
use Rattle.state.specs.declared.Sampler.{Sampler}
use Rattle.window.specs.Counting.{Cut, no_cut, in_cut, axis_inside, step_inside, inside_count, bound_of, cuts_of}
use Rattle.window_count.specs.Call.{counted, count_refusals, count_spec}
use Rattle.window_count.specs.OneStart.{index_inside, one_count}

module _ (p : Plan) (w : List Cut) (start N : ℕ) where
  one_axis : (t i : ℕ) → i < axis_count p
      → axis_inside p w (one_start p start N) t i ≡ in_cut (get_or w i no_cut) (numerator_of p (start + t) i) (denominator_of p i)
  unfolding axis_inside run_numerator
  one_axis t i l = rw (one_index p start N i t l) refl

  one_inside : inside_count p w (one_start p start N) ≡ count (λ t. index_inside p w (start + t)) N
  unfolding inside_count step_inside index_inside one_start
  one_inside =
      count_ext (step_inside p w (one_start p start N)) (λ t. index_inside p w (start + t)) N
      (λ t h. each_ext (axis_inside p w (one_start p start N) t) (λ i. in_cut (get_or w i no_cut) (numerator_of p (start + t) i) (denominator_of p i)) (axis_count p) (one_axis t))

-- of any state whose run has one start, foreign ones included, and any window
pub one_counted : (start : ℕ) (s : Sampler) → run_in s ≡ one_start (plan_in s) start s.count → (w : List ℕ) → count_spec s w ≡ one_count start s w
unfolding count_spec one_count
one_counted start s one w =
    ap (λ (n : ℕ). counted (first_due (count_refusals s w)) (unless_due (count_refusals s w) n 0) (unless_due (count_refusals s w) (bound_of (plan_in s) s.count) 0))
    (ap (inside_count (plan_in s) (cuts_of w s.axes)) one ∙ one_inside (plan_in s) (cuts_of w s.axes) start s.count)
