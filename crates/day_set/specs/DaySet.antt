-- A day set: the Hammersley set of an accepted plan (02-change-requests.md, K1; source document 002, section 4). Of N points the one with number
-- n, from 0 to N - 1, has the leading axis n / N and then the plan's axes at index n. A day set is held as a sampler whose run has start 0 on each
-- axis and count N. Definitions only.
use Rattle.std.specs.Prelude.{Bool, List, ◌∷◌, ℕ, suc, replicate}
use Rattle.numbers.specs.Listed.{joined}
use Rattle.plan.specs.Plan.{Plan}
use Rattle.points.specs.Point.{point_of}
use Rattle.points.specs.Run.{Run, one_start}
use Rattle.state.specs.State.{both, same_words, made, blank, plan_in, genuine}
use Rattle.state.specs.declared.Sampler.{Sampler}
use Rattle.day_set.specs.declared.DaySet.{DaySet}

-- ---- its points

-- point n: its numerator on the leading axis, whose denominator is N, then the plan's point of index n
unfoldable pub day_point : Plan → ℕ → List ℕ
day_point p n = n ∷ point_of p n

-- the points n, n + 1, .., n + k - 1, one after another
abbrev pub day_points : Plan → ℕ → ℕ → List ℕ
day_points p = joined (day_point p)

-- ---- its state

-- the run over the points of a day set of N
abbrev pub day_run : Plan → ℕ → Run
day_run p N = one_start p 0 N

-- the day set that holds this sampler
abbrev pub day_of : Sampler → DaySet
day_of s = record { run = s }

-- the day set of N points of this plan, so many of which are taken
unfoldable pub day_made : Plan → ℕ → ℕ → DaySet
day_made p N taken = day_of (made p (day_run p N) taken)

-- the day set that is all zero
unfoldable pub day_blank : DaySet
day_blank = day_of blank

-- the plan that a day set holds, and the numbers of its points and of those taken
abbrev pub day_plan : DaySet → Plan
day_plan d = plan_in d.run

abbrev pub day_size : DaySet → ℕ
day_size d = d.run.count

abbrev pub day_taken : DaySet → ℕ
day_taken d = d.run.taken

-- one word for the leading axis and one for each axis of the plan
abbrev pub day_width : DaySet → ℕ
day_width d = suc d.run.axes

-- each of six starts is 0
abbrev pub from_zero : List ℕ → Bool
from_zero starts = same_words starts (replicate 6 0)

-- The test: a genuine sampler whose run has start 0 on each axis. Any other day set is foreign (number 15).
unfoldable pub genuine_day : DaySet → Bool
genuine_day d = both (from_zero d.run.starts) (genuine d.run)
