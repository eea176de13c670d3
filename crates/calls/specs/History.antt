-- Calls in a row, by their own answers: the states that accepted calls leave (01-scope.md, number 15), and what steps and blocks serve of a run.
-- Definitions only.
use Rattle.std.specs.Prelude.{◌≡◌, List, [], ◌∷◌, ◌++◌, ℕ, ◌*◌, ◌≤◌, length, take}
use Rattle.bits.specs.Stream.{AllBelow}
use Rattle.plan.specs.Order.{unless_number}
use Rattle.points.specs.Run.{Run, one_start}
use Rattle.state.specs.State.{plan_in}
use Rattle.state.specs.declared.Sampler.{Sampler}
use Rattle.calls.specs.Calls.{read_spec, open_spec, step_spec, step_buf, block_spec, block_buf}

-- the states that an accepted reading of these bytes, with any accepted openings, steps and blocks after it, leaves
pub data After (bytes : List ℕ) : Sampler → Type 0 where
  read : AllBelow 256 bytes → (read_spec bytes).code ≡ 0 → After bytes (read_spec bytes).state
  opened : {s : Sampler} → After bytes s → (r : Run) → (open_spec s r).code ≡ 0 → After bytes (open_spec s r).state
  stepped : {s : Sampler} → After bytes s → (buf : List ℕ) → (step_spec s buf).code ≡ 0 → After bytes (step_spec s buf).state
  filled : {s : Sampler} → After bytes s → (buf : List ℕ) → (block_spec s buf).code ≡ 0 → After bytes (block_spec s buf).state

-- the run that the last accepted opening was given, or start 0 and count 0 after a reading alone
unfoldable pub last_run : {bytes : List ℕ} {s : Sampler} → After bytes s → Run
last_run {bytes} {s} (read below z) = one_start (plan_in s) 0 0
last_run (opened h r z) = r
last_run (stepped h buf z) = last_run h
last_run (filled h buf z) = last_run h

-- some accepted calls leave the state
abbrev pub AfterCalls : Sampler → Type 0
AfterCalls s = (bytes : List ℕ) × After bytes s

-- ---- serving a run

-- a step or a block, with the words that it is lent
pub data Request : Type 0 where
  step : List ℕ → Request
  block : List ℕ → Request

abbrev pub lent_to : Request → List ℕ
lent_to (step buf) = buf
lent_to (block buf) = buf

-- the state that it leaves
unfoldable pub moved_by : Request → Sampler → Sampler
moved_by (step buf) s = (step_spec s buf).state
moved_by (block buf) s = (block_spec s buf).state

-- the points that it writes, none where it is refused
unfoldable pub written_by : Request → Sampler → List ℕ
written_by (step buf) s = unless_number (step_spec s buf).code (take s.axes (step_buf s buf)) []
written_by (block buf) s = take ((block_spec s buf).points * s.axes) (block_buf s buf)

-- what a kind of state does on a request: the state that is left, and the points that are written
pub record Server (S : Type 0) : Type 0 where
  pub moved : Request → S → S
  pub written : Request → S → List ℕ

-- requests one after another
unfoldable pub all_moved : {S : Type 0} → Server S → List Request → S → S
all_moved v [] s = s
all_moved v (q ∷ requests) s = all_moved v requests (v.moved q s)

unfoldable pub all_written : {S : Type 0} → Server S → List Request → S → List ℕ
all_written v [] s = []
all_written v (q ∷ requests) s = v.written q s ++ all_written v requests (v.moved q s)

-- of a run: the state that they leave, and the points that they write
abbrev pub run_server : Server Sampler
run_server = record { moved = moved_by; written = written_by }

abbrev pub state_after : List Request → Sampler → Sampler
state_after = all_moved run_server

abbrev pub points_served : List Request → Sampler → List ℕ
points_served = all_written run_server

-- each is lent room for a point of so many axes
unfoldable pub AllRoom : ℕ → List Request → Type 0
AllRoom axes [] = Unit {0}
AllRoom axes (q ∷ requests) = (axes ≤ length (lent_to q)) × AllRoom axes requests
