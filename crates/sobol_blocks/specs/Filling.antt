-- Many points of a Sobol axis in a row: those from an index on. Definitions only.
use Rattle.std.specs.Prelude.{List, ℕ, ◌+◌}
use Rattle.sobol.specs.Stepping.{stepped}

-- the numerator i places after index n on an axis with these direction numbers
unfoldable pub sobol_from : List ℕ → ℕ → ℕ → ℕ
sobol_from vs n i = stepped vs (n + i)
