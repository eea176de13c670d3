-- What 02's K3 exchanges on a day set, as on a run: the former order, kept for the comparison alone, and the calls whose answer changes. Definitions
-- only.
use Rattle.std.specs.Prelude.{◌≡◌, true, List, ℕ, ◌≤◌, ◌<◌, length}
use Rattle.plan.specs.Order.{Condition}
use Rattle.calls.specs.Exchange.{former_order}
use Rattle.day_set.specs.DaySet.{day_size, day_taken, day_width, genuine_day}
use Rattle.day_set.specs.Calls.{foreign_day, spent_day, no_day_room}
use Rattle.day_set.specs.declared.DaySet.{DaySet}

abbrev pub former_day_refusals : DaySet → List ℕ → List Condition
former_day_refusals d buf = former_order (foreign_day d) (spent_day d) (no_day_room d buf)

-- a genuine day set, no point left, and a buffer shorter than one point
abbrev pub DaySpentAndShort : DaySet → List ℕ → Type 0
DaySpentAndShort d buf = (genuine_day d ≡ true) × (day_size d ≤ day_taken d) × (length buf < day_width d)
