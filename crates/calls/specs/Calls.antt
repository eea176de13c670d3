-- What each call answers, for all inputs, and what each lent word then holds (01-scope.md, "Runs and windows" and "When a call is turned
-- down"). A call's refusals stand in the papers' order: 01's, and 02's for steps and blocks (K3), for slots (K4) and for an opening (K6). A refusal
-- answers its number and zero for every other number, the state as given (a refused reading: the blank state), and changes no lent word.
-- Definitions only.
use Rattle.std.specs.Prelude.{Bool, not, ◌&&◌, List, [], ◌∷◌, ◌++◌, ℕ, ◌+◌, ◌-◌, ◌*◌, ◌/◌, ◌^◌, min, ltb, leb, length, drop}
use Rattle.plan.specs.Plan.{spell}
use Rattle.plan.specs.Reading.{Reading, refused, accepted, read_plan}
use Rattle.plan.specs.Order.{Condition, ◌when◌, first_due, unless_due}
use Rattle.points.specs.Point.{point_of, slot_of}
use Rattle.points.specs.Run.{Run, one_start, in_range, has_starts, run_numerator, run_point, run_points}
use Rattle.writer.specs.declared.PlanWritten.{PlanWritten}
use Rattle.state.specs.State.{made, blank, plan_in, run_in, genuine}
use Rattle.state.specs.declared.Sampler.{Sampler}
use Rattle.calls.specs.declared.Moved.{Moved}
use Rattle.calls.specs.declared.Jumped.{Jumped}
use Rattle.calls.specs.declared.Blocked.{Blocked}
use Rattle.calls.specs.declared.SecondOfDay.{SecondOfDay}
use Rattle.calls.specs.declared.Slotted.{Slotted}

abbrev pub moved : ℕ → Sampler → Moved
moved n s = record { code = n; state = s }

abbrev pub blocked : ℕ → ℕ → Sampler → Blocked
blocked n k s = record { code = n; points = k; state = s }

abbrev pub slotted : ℕ → ℕ → Slotted
slotted n slot = record { code = n; slot = slot }

-- ---- the conditions

-- 15, foreign: no accepted calls leave the state
abbrev pub foreign : Sampler → Bool
foreign s = not (genuine s)

-- 11, range: an index at or above 2^32
abbrev pub beyond : ℕ → Bool
beyond n = leb (2 ^ 32) n

-- 12, spent: no point is left
abbrev pub spent : Sampler → Bool
spent s = leb s.count s.taken

-- 17, split start: not one start for each axis, or unequal starts of a Sobol plan (02-change-requests.md, K6)
abbrev pub split_start : Sampler → Run → Bool
split_start s r = not (has_starts s.family s.axes r.starts)

-- 13, room: the buffer is shorter than one point, or than the plan
abbrev pub no_point_room : Sampler → List ℕ → Bool
no_point_room s buf = ltb (length buf) s.axes

abbrev pub no_plan_room : Sampler → List ℕ → Bool
no_plan_room s buf = ltb (length buf) (length (spell (plan_in s)))

-- a number from 1 to `most`
abbrev pub is_from_one : ℕ → ℕ → Bool
is_from_one most n = leb 1 n && leb n most

-- the plan has the axis, the first being axis 1, and the slot count is from 1 to 2^24
unfoldable pub has_slots : ℕ → ℕ → ℕ → Bool
has_slots axes axis slots = is_from_one axes axis && is_from_one (2 ^ 24) slots

-- 16, slots: a slot count outside its range, or an axis that the plan lacks (02-change-requests.md, K4)
abbrev pub no_slots : Sampler → ℕ → ℕ → Bool
no_slots s axis slots = not (has_slots s.axes axis slots)

-- ---- the orders that a run's calls share with their twins of a day set (02-change-requests.md, K1)

abbrev pub jump_order : Bool → Bool → Bool → List Condition
jump_order is_foreign out_of_range no_room = 15 when is_foreign ∷ 11 when out_of_range ∷ 13 when no_room ∷ []

-- steps and blocks: 13 comes even where no point is left (K3)
abbrev pub run_order : Bool → Bool → Bool → List Condition
run_order is_foreign is_spent no_room = 15 when is_foreign ∷ 13 when no_room ∷ 12 when is_spent ∷ []

-- ---- read: the numbers 1 and 3 to 10

unfoldable pub read_state : Reading → Moved
read_state (refused n) = moved n blank
read_state (accepted p) = moved 0 (made p (one_start p 0 0) 0)

unfoldable pub read_spec : List ℕ → Moved
read_spec bytes = read_state (read_plan bytes)

-- ---- write

abbrev pub write_refusals : Sampler → List ℕ → List Condition
write_refusals s buf = 15 when foreign s ∷ 13 when no_plan_room s buf ∷ []

-- the plan's length
unfoldable pub write_spec : Sampler → List ℕ → PlanWritten
write_spec s buf = record {
  code = first_due (write_refusals s buf);
  len = unless_due (write_refusals s buf) (length (spell (plan_in s))) 0;
}

-- the plan's bytes, and then what lay behind them
unfoldable pub write_buf : Sampler → List ℕ → List ℕ
write_buf s buf = unless_due (write_refusals s buf) (spell (plan_in s) ++ drop (length (spell (plan_in s))) buf) buf

-- ---- open

abbrev pub open_refusals : Sampler → Run → List Condition
open_refusals s r = 15 when foreign s ∷ 11 when not (in_range r) ∷ 17 when split_start s r ∷ []

unfoldable pub open_spec : Sampler → Run → Moved
open_spec s r = moved (first_due (open_refusals s r)) (unless_due (open_refusals s r) (made (plan_in s) r 0) s)

-- ---- jump

abbrev pub jump_refusals : Sampler → ℕ → List ℕ → List Condition
jump_refusals s n buf = jump_order (foreign s) (beyond n) (no_point_room s buf)

unfoldable pub jump_spec : Sampler → ℕ → List ℕ → Jumped
jump_spec s n buf = record { code = first_due (jump_refusals s n buf) }

-- the point of the index
unfoldable pub jump_buf : Sampler → ℕ → List ℕ → List ℕ
jump_buf s n buf = unless_due (jump_refusals s n buf) (point_of (plan_in s) n ++ drop s.axes buf) buf

-- ---- step and block, by their order of refusals

abbrev pub run_refusals : Sampler → List ℕ → List Condition
run_refusals s buf = run_order (foreign s) (spent s) (no_point_room s buf)

abbrev pub step_by : List Condition → Sampler → Moved
step_by order s = moved (first_due order) (unless_due order (made (plan_in s) (run_in s) (s.taken + 1)) s)

unfoldable pub step_spec : Sampler → List ℕ → Moved
step_spec s buf = step_by (run_refusals s buf) s

-- the run's next point
abbrev pub step_buf_by : List Condition → Sampler → List ℕ → List ℕ
step_buf_by order s buf = unless_due order (run_point (plan_in s) (run_in s) s.taken ++ drop s.axes buf) buf

unfoldable pub step_buf : Sampler → List ℕ → List ℕ
step_buf s buf = step_buf_by (run_refusals s buf) s buf

-- as many points as are left and fit whole
abbrev pub block_size : Sampler → List ℕ → ℕ
block_size s buf = min (s.count - s.taken) (length buf / s.axes)

abbrev pub block_by : List Condition → ℕ → Sampler → Blocked
block_by order k s = blocked (first_due order) (unless_due order k 0) (unless_due order (made (plan_in s) (run_in s) (s.taken + k)) s)

unfoldable pub block_spec : Sampler → List ℕ → Blocked
block_spec s buf = block_by (run_refusals s buf) (block_size s buf) s

-- those points, one after another
abbrev pub block_buf_by : List Condition → Sampler → List ℕ → List ℕ
block_buf_by order s buf =
    unless_due order (run_points (plan_in s) (run_in s) s.taken (block_size s buf) ++ drop (block_size s buf * s.axes) buf) buf

unfoldable pub block_buf : Sampler → List ℕ → List ℕ
block_buf s buf = block_buf_by (run_refusals s buf) s buf

-- ---- rows: a block with so many words before each point, `lead`, which stay as they are; a block has none, a day set's has one

abbrev pub rows_refusals : ℕ → Sampler → List ℕ → List Condition
rows_refusals lead s buf = run_order (foreign s) (spent s) (ltb (length buf) (lead + s.axes))

abbrev pub rows_size : ℕ → Sampler → List ℕ → ℕ
rows_size lead s buf = min (s.count - s.taken) (length buf / (lead + s.axes))

unfoldable pub rows_spec : ℕ → Sampler → List ℕ → Blocked
rows_spec lead s buf = block_by (rows_refusals lead s buf) (rows_size lead s buf) s

-- the numerator of axis i in row k
unfoldable pub row_numerator : Sampler → ℕ → ℕ → ℕ
row_numerator s i k = run_numerator (plan_in s) (run_in s) (s.taken + k) i

-- ---- second

abbrev pub second_refusals : Sampler → ℕ → List Condition
second_refusals s n = 15 when foreign s ∷ 11 when beyond n ∷ []

-- the whole part of axis 1's fraction × 86,400
unfoldable pub second_spec : Sampler → ℕ → SecondOfDay
second_spec s n = record {
  code = first_due (second_refusals s n);
  second = unless_due (second_refusals s n) (slot_of (plan_in s) 86400 n 0) 0;
}

-- ---- slot

abbrev pub slot_refusals : Sampler → ℕ → ℕ → ℕ → List Condition
slot_refusals s n axis slots = 15 when foreign s ∷ 11 when beyond n ∷ 16 when no_slots s axis slots ∷ []

-- the whole part of the axis's fraction × slots
unfoldable pub slot_spec : Sampler → ℕ → ℕ → ℕ → Slotted
slot_spec s n axis slots =
    slotted (first_due (slot_refusals s n axis slots)) (unless_due (slot_refusals s n axis slots) (slot_of (plan_in s) slots n (axis - 1)) 0)
