-- The direction numbers that a table over one Sobol axis wants. Definitions only.
use Rattle.std.specs.Prelude.{◌≡◌, List, ℕ, ◌^◌, ◌<◌, length}
use Rattle.sobol.specs.Stepping.{stepped}

-- the direction numbers of an axis, all of whose points fit 32 bits
pub record Directions (vs : List ℕ) : Type 0 where
  pub long : length vs ≡ 32
  pub low : (n : ℕ) → stepped vs n < 2 ^ 32
