-- What demand 2 asks of a day set that steps and blocks serve, by the calls' own answers (00-request.md, 2; 02-change-requests.md, K1).
-- Definitions only.
use Rattle.std.specs.Prelude.{◌≡◌, List, ℕ, suc, ◌*◌, ◌≤◌, ◌<◌, length, take, drop}
use Rattle.plan.specs.Plan.{Plan}
use Rattle.points.specs.Point.{axis_count}
use Rattle.calls.specs.History.{Request, AllRoom}
use Rattle.day_set.specs.DaySet.{day_point}
use Rattle.day_set.specs.Calls.{day_jump_spec, day_jump_buf, day_step_spec, day_step_buf, day_block_spec}
use Rattle.day_set.specs.declared.DaySet.{DaySet}

-- the words of a point: n, and one for each axis
abbrev pub width_of : Plan → ℕ
width_of p = suc (axis_count p)

-- Steps and blocks served the first points of the day set of N, and left d.
pub record ServesDay (p : Plan) (N : ℕ) (requests : List Request) (points : List ℕ) (d : DaySet) : Type 0 where
  pub served : ℕ
  -- never more points than N, and all of them after as many calls that have room
  pub within : served ≤ N
  pub all : AllRoom (width_of p) requests → N ≤ length requests → served ≡ N
  -- the points are those numbered from 0, n in front
  pub long : length points ≡ served * width_of p
  pub point : (n : ℕ) → n < served → take (width_of p) (drop (n * width_of p) points) ≡ day_point p n
  -- a further step with room gives the next one, or 12 (spent) where none is left
  pub next : (buf : List ℕ) → width_of p ≤ length buf → served < N
      → ((day_step_spec d buf).code ≡ 0) × (take (width_of p) (day_step_buf d buf) ≡ day_point p served)
  pub over : (buf : List ℕ) → width_of p ≤ length buf → served ≡ N → ((day_step_spec d buf).code ≡ 12) × ((day_block_spec d buf).code ≡ 12)
  -- a jump gives the same points, and 11 from N on
  pub jump : (buf : List ℕ) → width_of p ≤ length buf → (n : ℕ) → n < N
      → ((day_jump_spec d n buf).code ≡ 0) × (take (width_of p) (day_jump_buf d n buf) ≡ day_point p n)
  pub past : (buf : List ℕ) (n : ℕ) → N ≤ n → ((day_jump_spec d n buf).code ≡ 11) × (day_jump_buf d n buf ≡ buf)
