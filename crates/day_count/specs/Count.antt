-- The window count of a day set (02-change-requests.md, K1): a window has a cut for the leading axis, n / N, and then one for each axis of the
-- plan. Definitions only.
use Rattle.std.specs.Prelude.{Bool, ◌&&◌, not, List, ℕ, ◌+◌, get_or, drop}
use Rattle.numbers.specs.Count.{count}
use Rattle.plan.specs.Plan.{Plan, halton, sobol}
use Rattle.plan.specs.Order.{Condition, first_due, unless_due}
use Rattle.day_set.specs.DaySet.{day_run, day_plan, day_size, day_width}
use Rattle.day_set.specs.Calls.{foreign_day}
use Rattle.day_set.specs.declared.DaySet.{DaySet}
use Rattle.window.specs.Counting.{Cut, no_cut, in_cut, step_inside, bound_of, cuts_of, is_window}
use Rattle.window_count.specs.Call.{counted, count_order}
use Rattle.window_count.specs.declared.Counted.{Counted}

-- point n of N is inside: n × q is less than u × N on the leading axis, and the plan's point of index n is inside the other cuts
unfoldable pub day_inside : Plan → List Cut → ℕ → ℕ → Bool
day_inside p w N n = in_cut (get_or w 0 no_cut) n N && step_inside p (drop 1 w) (day_run p N) n

-- S: how many of the N points are inside
unfoldable pub day_inside_count : Plan → List Cut → ℕ → ℕ
day_inside_count p w N = count (day_inside p w N) N

-- the bound that it reports: the plan's own for N points plus 1; for Sobol 0, which claims none
unfoldable pub day_bound_of : Plan → ℕ → ℕ
day_bound_of (halton family bases) N = bound_of (halton family bases) N + 1
day_bound_of (sobol axes) N = 0

-- ---- the call

-- 14, window: u or q outside its range, or not one u and one q for the leading axis and for each axis of the plan
abbrev pub day_count_refusals : DaySet → List ℕ → List Condition
day_count_refusals d w = count_order (foreign_day d) (not (is_window w (day_width d)))

-- S over the whole set, whatever is taken, and the bound
unfoldable pub day_count_spec : DaySet → List ℕ → Counted
day_count_spec d w =
    counted (first_due (day_count_refusals d w)) (unless_due (day_count_refusals d w) (day_inside_count (day_plan d) (cuts_of w (day_width d)) (day_size d)) 0)
    (unless_due (day_count_refusals d w) (day_bound_of (day_plan d) (day_size d)) 0)
