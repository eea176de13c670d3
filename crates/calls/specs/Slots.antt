-- What a planner relies on: slots that share consecutive indexes evenly (02-change-requests.md, K4). Definitions only.
use Rattle.std.specs.Prelude.{◌≡◌, Bool, ℕ, ◌+◌, ◌-◌, ◌/◌, ◌<◌, eqb, get_or}
use Rattle.numbers.specs.Count.{count}
use Rattle.state.specs.declared.Sampler.{Sampler}
use Rattle.calls.specs.Calls.{slot_spec}

-- the base of an axis, from 1, of a Halton-family plan
abbrev pub base_of_axis : Sampler → ℕ → ℕ
base_of_axis s axis = get_or s.bases (axis - 1) 0

-- the call answers slot j for the index t places after the first
abbrev pub is_slot : Sampler → ℕ → ℕ → ℕ → ℕ → ℕ → Bool
is_slot s axis slots first j t = eqb (slot_spec s (first + t) axis slots).slot j

-- Each of n indexes from the first on is answered, and every slot has n / slots of them.
pub record SharedEvenly (s : Sampler) (axis slots first n : ℕ) : Type 0 where
  pub answered : (t : ℕ) → t < n → (slot_spec s (first + t) axis slots).code ≡ 0
  pub share : (j : ℕ) → j < slots → count (is_slot s axis slots first j) n ≡ n / slots
