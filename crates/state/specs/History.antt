-- The states that accepted calls leave (01-scope.md, number 15): an accepted reading, with any accepted openings, steps and blocks after it.
-- Definitions only.
use Rattle.std.specs.Prelude.{◌≡◌, List, ℕ, ◌+◌, ◌-◌, ◌≤◌}
use Rattle.bits.specs.Stream.{AllBelow}
use Rattle.plan.specs.Plan.{Plan}
use Rattle.plan.specs.Reading.{accepted, read_plan}
use Rattle.points.specs.Run.{Run, one_start, Opens}
use Rattle.state.specs.State.{made}
use Rattle.state.specs.declared.Sampler.{Sampler}

-- a history that leaves this plan, with this run and number of points taken
pub data Left : Plan → Run → ℕ → Type 0 where
  -- an accepted reading leaves a run with start 0 on each axis and count 0
  read : (bytes : List ℕ) (p : Plan) → AllBelow 256 bytes → read_plan bytes ≡ accepted p → Left p (one_start p 0 0) 0
  -- an opening that takes its run replaces the old one
  opened : {p : Plan} {r₀ : Run} {taken₀ : ℕ} (r : Run) → Left p r₀ taken₀ → Opens p r → Left p r 0
  -- a step or a block of k, at most what is left, takes k points
  served : {p : Plan} {r : Run} {taken : ℕ} (k : ℕ) → Left p r taken → k ≤ r.count - taken → Left p r (taken + k)

-- some history leaves the state
pub record Reachable (s : Sampler) : Type 0 where
  pub plan : Plan
  pub run : Run
  pub taken : ℕ
  pub history : Left plan run taken
  pub is : s ≡ made plan run taken
