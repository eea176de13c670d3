-- `sobol_tables::first_points` meets its contract: the first r points are written, and the local number is the next. Assumes nothing.
use mathlib.Core.Path.{◌≡◌}
use Rattle.numbers.specs.Listed.{Begins}
use Rattle.sobol.specs.Stepping.{stepped}
use Rattle.sobol_tables.proofs.first_points.Given as goal

abbrev pub invariant-loop-r : goal.invariant-loop-r
invariant-loop-r l = (l.x ≡ stepped l.v l.r) × Begins (stepped l.v) l.r l.t
