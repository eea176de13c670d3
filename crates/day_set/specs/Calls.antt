-- What each call on a day set answers, for all inputs, and what each lent word then holds (02-change-requests.md, K1). Each checks in the order of
-- its run twin. A refusal answers its number and zero for every other number, the day set as given (a refused making: the one that is all zero),
-- and changes no lent word. Definitions only.
use Rattle.std.specs.Prelude.{Bool, not, List, [], ◌∷◌, ◌++◌, ℕ, ◌+◌, ◌-◌, ◌*◌, ◌/◌, ◌^◌, min, ltb, leb, length, drop}
use Rattle.plan.specs.Order.{Condition, ◌when◌, first_due, unless_due}
use Rattle.state.specs.State.{plan_in}
use Rattle.state.specs.declared.Sampler.{Sampler}
use Rattle.calls.specs.Calls.{foreign, jump_order, run_order}
use Rattle.calls.specs.declared.Jumped.{Jumped}
use Rattle.day_set.specs.DaySet.{day_point, day_points, day_made, day_blank, day_plan, day_size, day_taken, day_width, genuine_day}
use Rattle.day_set.specs.declared.DaySet.{DaySet}
use Rattle.day_set.specs.declared.DayMoved.{DayMoved}
use Rattle.day_set.specs.declared.DayBlocked.{DayBlocked}

abbrev pub day_moved : ℕ → DaySet → DayMoved
day_moved n d = record { code = n; set = d }

abbrev pub day_blocked : ℕ → ℕ → DaySet → DayBlocked
day_blocked n k d = record { code = n; points = k; set = d }

-- ---- the conditions

-- 15, foreign: no accepted making, with accepted steps and blocks after it, leaves the day set
abbrev pub foreign_day : DaySet → Bool
foreign_day d = not (genuine_day d)

-- 11, range: a size above 2^32, or a point number that is not below the size
abbrev pub too_large : ℕ → Bool
too_large N = ltb (2 ^ 32) N

abbrev pub past_day : DaySet → ℕ → Bool
past_day d n = leb (day_size d) n

-- 12, spent: no point is left
abbrev pub spent_day : DaySet → Bool
spent_day d = leb (day_size d) (day_taken d)

-- 13, room: the buffer is shorter than one point
abbrev pub no_day_room : DaySet → List ℕ → Bool
no_day_room d buf = ltb (length buf) (day_width d)

-- ---- make, the twin of open: the set of N points of the state's plan, whatever its run. With one start for all axes 17 is never due.

abbrev pub make_refusals : Sampler → ℕ → List Condition
make_refusals s N = 15 when foreign s ∷ 11 when too_large N ∷ []

unfoldable pub make_spec : Sampler → ℕ → DayMoved
make_spec s N = day_moved (first_due (make_refusals s N)) (unless_due (make_refusals s N) (day_made (plan_in s) N 0) day_blank)

-- ---- jump

abbrev pub day_jump_refusals : DaySet → ℕ → List ℕ → List Condition
day_jump_refusals d n buf = jump_order (foreign_day d) (past_day d n) (no_day_room d buf)

unfoldable pub day_jump_spec : DaySet → ℕ → List ℕ → Jumped
day_jump_spec d n buf = record { code = first_due (day_jump_refusals d n buf) }

-- point n
unfoldable pub day_jump_buf : DaySet → ℕ → List ℕ → List ℕ
day_jump_buf d n buf = unless_due (day_jump_refusals d n buf) (day_point (day_plan d) n ++ drop (day_width d) buf) buf

-- ---- step and block, by their order of refusals

abbrev pub day_run_refusals : DaySet → List ℕ → List Condition
day_run_refusals d buf = run_order (foreign_day d) (spent_day d) (no_day_room d buf)

abbrev pub day_step_by : List Condition → DaySet → DayMoved
day_step_by order d = day_moved (first_due order) (unless_due order (day_made (day_plan d) (day_size d) (day_taken d + 1)) d)

unfoldable pub day_step_spec : DaySet → List ℕ → DayMoved
day_step_spec d buf = day_step_by (day_run_refusals d buf) d

-- the next point
abbrev pub day_step_buf_by : List Condition → DaySet → List ℕ → List ℕ
day_step_buf_by order d buf = unless_due order (day_point (day_plan d) (day_taken d) ++ drop (day_width d) buf) buf

unfoldable pub day_step_buf : DaySet → List ℕ → List ℕ
day_step_buf d buf = day_step_buf_by (day_run_refusals d buf) d buf

-- as many points as are left and fit whole
abbrev pub day_block_size : DaySet → List ℕ → ℕ
day_block_size d buf = min (day_size d - day_taken d) (length buf / day_width d)

abbrev pub day_block_by : List Condition → ℕ → DaySet → DayBlocked
day_block_by order k d = day_blocked (first_due order) (unless_due order k 0) (unless_due order (day_made (day_plan d) (day_size d) (day_taken d + k)) d)

unfoldable pub day_block_spec : DaySet → List ℕ → DayBlocked
day_block_spec d buf = day_block_by (day_run_refusals d buf) (day_block_size d buf) d

-- those points, one after another
abbrev pub day_block_buf_by : List Condition → DaySet → List ℕ → List ℕ
day_block_buf_by order d buf =
    unless_due order (day_points (day_plan d) (day_taken d) (day_block_size d buf) ++ drop (day_block_size d buf * day_width d) buf) buf

unfoldable pub day_block_buf : DaySet → List ℕ → List ℕ
day_block_buf d buf = day_block_buf_by (day_run_refusals d buf) d buf
