-- Calls on a day set in a row, by their own answers: the day sets that accepted calls leave (02-change-requests.md, K1), and what steps and blocks
-- serve of one. Definitions only.
use Rattle.std.specs.Prelude.{◌≡◌, List, [], ℕ, ◌*◌, take}
use Rattle.plan.specs.Order.{unless_number}
use Rattle.state.specs.declared.Sampler.{Sampler}
use Rattle.calls.specs.History.{After, Request, step, block, Server, all_moved, all_written}
use Rattle.day_set.specs.DaySet.{day_width}
use Rattle.day_set.specs.Calls.{make_spec, day_step_spec, day_step_buf, day_block_spec, day_block_buf}
use Rattle.day_set.specs.declared.DaySet.{DaySet}

-- the day sets that an accepted making from the plan read from these bytes, with any accepted steps and blocks after it, leaves
pub data DayAfter (bytes : List ℕ) : DaySet → Type 0 where
  make : {s : Sampler} → After bytes s → (N : ℕ) → (make_spec s N).code ≡ 0 → DayAfter bytes (make_spec s N).set
  stepped : {d : DaySet} → DayAfter bytes d → (buf : List ℕ) → (day_step_spec d buf).code ≡ 0 → DayAfter bytes (day_step_spec d buf).set
  filled : {d : DaySet} → DayAfter bytes d → (buf : List ℕ) → (day_block_spec d buf).code ≡ 0 → DayAfter bytes (day_block_spec d buf).set

-- some accepted calls leave the day set
abbrev pub DayAfterCalls : DaySet → Type 0
DayAfterCalls d = (bytes : List ℕ) × DayAfter bytes d

-- ---- serving a day set: a step or a block, with the words that it is lent

-- the day set that it leaves
unfoldable pub day_moved_by : Request → DaySet → DaySet
day_moved_by (step buf) d = (day_step_spec d buf).set
day_moved_by (block buf) d = (day_block_spec d buf).set

-- the points that it writes, none where it is refused
unfoldable pub day_written_by : Request → DaySet → List ℕ
day_written_by (step buf) d = unless_number (day_step_spec d buf).code (take (day_width d) (day_step_buf d buf)) []
day_written_by (block buf) d = take ((day_block_spec d buf).points * day_width d) (day_block_buf d buf)

-- requests one after another: the day set that they leave, and the points that they write
abbrev pub day_server : Server DaySet
day_server = record { moved = day_moved_by; written = day_written_by }

abbrev pub day_after : List Request → DaySet → DaySet
day_after = all_moved day_server

abbrev pub day_served : List Request → DaySet → List ℕ
day_served = all_written day_server
