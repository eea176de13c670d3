-- Steps in a row, each lent words of its own. Definitions only.
use Rattle.std.specs.Prelude.{List, [], ◌++◌, ℕ, zero, suc, take}
use Rattle.state.specs.declared.Sampler.{Sampler}
use Rattle.calls.specs.Calls.{step_spec, step_buf}

-- the state that k steps leave, step number t, from 0, being lent the words bufs t
unfoldable pub steps_state : ℕ → Sampler → (ℕ → List ℕ) → Sampler
steps_state zero s bufs = s
steps_state (suc k) s bufs = (step_spec (steps_state k s bufs) (bufs k)).state

-- the points that they write, one after another
unfoldable pub steps_points : ℕ → Sampler → (ℕ → List ℕ) → List ℕ
steps_points zero s bufs = []
steps_points (suc k) s bufs = steps_points k s bufs ++ take s.axes (step_buf (steps_state k s bufs) (bufs k))
