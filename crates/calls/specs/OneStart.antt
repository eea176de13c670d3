-- Runs with one start for all axes, the only ones before 02's K6: what the calls answered then, by which they are compared. A day set is made by such
-- an opening still. Definitions only.
use Rattle.std.specs.Prelude.{◌≡◌, true, not, List, [], ◌∷◌, ◌++◌, ℕ, ◌+◌, ◌*◌, drop}
use Rattle.numbers.specs.Listed.{joined}
use Rattle.plan.specs.Order.{Condition, ◌when◌, first_due, unless_due}
use Rattle.points.specs.Point.{point_of}
use Rattle.points.specs.Run.{one_start, start_in_range}
use Rattle.state.specs.State.{made, plan_in, run_in, genuine}
use Rattle.state.specs.declared.Sampler.{Sampler}
use Rattle.calls.specs.Calls.{moved, blocked, foreign, jump_buf, run_refusals, step_spec, step_buf, block_size, block_spec, block_buf}
use Rattle.calls.specs.declared.Moved.{Moved}
use Rattle.calls.specs.declared.Blocked.{Blocked}

-- ---- open

-- 15, and 11 where start + count is above 2^32
abbrev pub one_refusals : Sampler → ℕ → ℕ → List Condition
one_refusals s start count = 15 when foreign s ∷ 11 when not (start_in_range start count) ∷ []

unfoldable pub one_open : Sampler → ℕ → ℕ → Moved
one_open s start count =
    moved (first_due (one_refusals s start count)) (unless_due (one_refusals s start count) (made (plan_in s) (one_start (plan_in s) start count) 0) s)

-- ---- step and block

-- the state with one start on each axis, so many of whose points are taken
abbrev pub one_made : ℕ → Sampler → ℕ → Sampler
one_made start s taken = made (plan_in s) (one_start (plan_in s) start s.count) taken

unfoldable pub one_step : ℕ → Sampler → List ℕ → Moved
one_step start s buf = moved (first_due (run_refusals s buf)) (unless_due (run_refusals s buf) (one_made start s (s.taken + 1)) s)

-- the point of index start + taken
unfoldable pub one_step_buf : ℕ → Sampler → List ℕ → List ℕ
one_step_buf start s buf = unless_due (run_refusals s buf) (point_of (plan_in s) (start + s.taken) ++ drop s.axes buf) buf

unfoldable pub one_block : ℕ → Sampler → List ℕ → Blocked
one_block start s buf =
    blocked (first_due (run_refusals s buf)) (unless_due (run_refusals s buf) (block_size s buf) 0)
    (unless_due (run_refusals s buf) (one_made start s (s.taken + block_size s buf)) s)

-- those of the indexes from there on
unfoldable pub one_block_buf : ℕ → Sampler → List ℕ → List ℕ
one_block_buf start s buf =
    unless_due (run_refusals s buf) (joined (point_of (plan_in s)) (start + s.taken) (block_size s buf) ++ drop (block_size s buf * s.axes) buf) buf

-- a state that accepted calls leave, with one start for all axes
pub record HasOne (start : ℕ) (s : Sampler) : Type 0 where
  pub known : genuine s ≡ true
  pub one : run_in s ≡ one_start (plan_in s) start s.count

-- Its steps and blocks answer as they did, and leave such a state; and a jump to the index start + taken writes what the step writes.
pub record AsBefore (start : ℕ) (s : Sampler) : Type 0 where
  pub step : (buf : List ℕ) → (step_spec s buf ≡ one_step start s buf) × (step_buf s buf ≡ one_step_buf start s buf)
  pub stepped : (buf : List ℕ) → HasOne start (step_spec s buf).state
  pub block : (buf : List ℕ) → (block_spec s buf ≡ one_block start s buf) × (block_buf s buf ≡ one_block_buf start s buf)
  pub filled : (buf : List ℕ) → HasOne start (block_spec s buf).state
  pub jump : (buf : List ℕ) → (step_spec s buf).code ≡ 0 → jump_buf s (start + s.taken) buf ≡ step_buf s buf
