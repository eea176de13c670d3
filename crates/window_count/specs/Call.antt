-- What the window count answers, for all inputs (01-scope.md, "Runs and windows" and "When a call is turned down"). Definitions only.
use Rattle.std.specs.Prelude.{Bool, not, List, [], ◌∷◌, ℕ}
use Rattle.plan.specs.Order.{Condition, ◌when◌, first_due, unless_due}
use Rattle.state.specs.State.{plan_in, run_in}
use Rattle.state.specs.declared.Sampler.{Sampler}
use Rattle.calls.specs.Calls.{foreign}
use Rattle.window.specs.Counting.{inside_count, bound_of, cuts_of, is_window}
use Rattle.window_count.specs.declared.Counted.{Counted}

abbrev pub counted : ℕ → ℕ → ℕ → Counted
counted n inside bound = record { code = n; inside = inside; bound = bound }

-- the order, also that of a day set's count (02-change-requests.md, K1)
abbrev pub count_order : Bool → Bool → List Condition
count_order is_foreign no_window = 15 when is_foreign ∷ 14 when no_window ∷ []

-- 14, window: u or q outside its range, or not one u and one q per axis
abbrev pub count_refusals : Sampler → List ℕ → List Condition
count_refusals s w = count_order (foreign s) (not (is_window w s.axes))

-- S over the whole opened run, whatever is taken, and the bound
unfoldable pub count_spec : Sampler → List ℕ → Counted
count_spec s w =
    counted (first_due (count_refusals s w)) (unless_due (count_refusals s w) (inside_count (plan_in s) (cuts_of w s.axes) (run_in s)) 0)
    (unless_due (count_refusals s w) (bound_of (plan_in s) s.count) 0)
