-- A main loop over one sampler and one buffer, both lent once: it steps until a step answers another number than 0. Definitions only.
use Rattle.std.specs.Prelude.{Bool, cond, List, ℕ, zero, suc, ◌-◌, eqb, leb, length}
use Rattle.state.specs.State.{both, genuine}
use Rattle.state.specs.declared.Sampler.{Sampler}
use Rattle.calls.specs.Calls.{step_spec, step_buf}

-- how it ends: the number of the step that stopped it, the state and the words
pub record Ended : Type 0 where
  pub code : ℕ
  pub state : Sampler
  pub words : List ℕ

abbrev pub ended : ℕ → Sampler → List ℕ → Ended
ended n s words = record { code = n; state = s; words = words }

-- one step
abbrev pub stepped : Sampler → List ℕ → Ended
stepped s words = ended (step_spec s words).code (step_spec s words).state (step_buf s words)

-- after k steps at most, each on what the one before left, comes one that ends it
unfoldable pub served_within : ℕ → Sampler → List ℕ → Ended
served_within zero s words = stepped s words
served_within (suc k) s words =
    cond (eqb (step_spec s words).code 0) (served_within k (step_spec s words).state (step_buf s words)) (stepped s words)

-- the points that a run has left
abbrev pub left : Sampler → ℕ
left s = s.count - s.taken

unfoldable pub served : Sampler → List ℕ → Ended
served s words = served_within (left s) s words

-- the day is over: the state is genuine and a point has room, so that every point is served, and 12 comes
unfoldable pub is_over : Sampler → List ℕ → Bool
is_over s words = both (genuine s) (leb s.axes (length words))
