-- What demand 2 asks of a run that steps and blocks serve, by the calls' own answers (00-request.md, 2; 01-scope.md, "Runs and windows").
-- Definitions only.
use Rattle.std.specs.Prelude.{◌≡◌, List, ℕ, ◌*◌, ◌≤◌, ◌<◌, length, take, drop, get_or}
use Rattle.plan.specs.Plan.{Plan}
use Rattle.points.specs.Point.{axis_count}
use Rattle.points.specs.Run.{Run, index_at, run_point}
use Rattle.state.specs.declared.Sampler.{Sampler}
use Rattle.calls.specs.History.{Request, AllRoom}
use Rattle.calls.specs.Calls.{jump_spec, jump_buf, step_spec, step_buf, block_spec}

-- Steps and blocks served the run's first points and left the state s.
pub record ServesRun (p : Plan) (r : Run) (requests : List Request) (points : List ℕ) (s : Sampler) : Type 0 where
  pub served : ℕ
  -- never more points than the run has, and all of them after as many calls that have room
  pub within : served ≤ r.count
  pub all : AllRoom (axis_count p) requests → r.count ≤ length requests → served ≡ r.count
  -- point number k is the run's: each axis at its own start + k
  pub long : length points ≡ served * axis_count p
  pub point : (k : ℕ) → k < served → take (axis_count p) (drop (k * axis_count p) points) ≡ run_point p r k
  -- a further step with room gives the next one, or 12 (spent) where none is left
  pub next : (buf : List ℕ) → axis_count p ≤ length buf → served < r.count
      → ((step_spec s buf).code ≡ 0) × (take (axis_count p) (step_buf s buf) ≡ run_point p r served)
  pub over : (buf : List ℕ) → axis_count p ≤ length buf → served ≡ r.count → ((step_spec s buf).code ≡ 12) × ((block_spec s buf).code ≡ 12)
  -- a jump to the index that an axis reads gives the same on that axis
  pub jump : (buf : List ℕ) → axis_count p ≤ length buf → (i k : ℕ) → i < axis_count p → k < r.count
      → ((jump_spec s (index_at r i k) buf).code ≡ 0) × (get_or (jump_buf s (index_at r i k) buf) i 0 ≡ get_or (run_point p r k) i 0)
