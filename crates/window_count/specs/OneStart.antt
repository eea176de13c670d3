-- The count of a run with one start for all axes, the only ones before 02's K6, which is kept for the comparison alone. Definitions only.
use Rattle.std.specs.Prelude.{Bool, List, ℕ, ◌+◌, get_or}
use Rattle.numbers.specs.Count.{count, each}
use Rattle.plan.specs.Order.{first_due, unless_due}
use Rattle.plan.specs.Plan.{Plan}
use Rattle.points.specs.Point.{axis_count, numerator_of, denominator_of}
use Rattle.state.specs.State.{plan_in}
use Rattle.state.specs.declared.Sampler.{Sampler}
use Rattle.window.specs.Counting.{Cut, no_cut, in_cut, bound_of, cuts_of}
use Rattle.window_count.specs.Call.{counted, count_refusals}
use Rattle.window_count.specs.declared.Counted.{Counted}

-- the point of an index is inside, on every axis
unfoldable pub index_inside : Plan → List Cut → ℕ → Bool
index_inside p w n = each (λ i. in_cut (get_or w i no_cut) (numerator_of p n i) (denominator_of p i)) (axis_count p)

-- what the count answers: how many of the indexes from the start on have their point inside
unfoldable pub one_count : ℕ → Sampler → List ℕ → Counted
one_count start s w =
    counted (first_due (count_refusals s w))
    (unless_due (count_refusals s w) (count (λ t. index_inside (plan_in s) (cuts_of w s.axes) (start + t)) s.count) 0)
    (unless_due (count_refusals s w) (bound_of (plan_in s) s.count) 0)
