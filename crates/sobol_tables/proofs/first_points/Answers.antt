-- `sobol_tables::first_points` meets its contract: the first r points are written, and the local number is the next. Assumes nothing.
use mathlib.Core.Path.{refl}
use Rattle.numbers.proofs.ListedLaws.{begins_none}
use Rattle.sobol.specs.Stepping.{stepped}
use Rattle.sobol_tables.proofs.first_points.Goals as goal

pub loop-r-init : goal.loop-r-init
unfolding stepped
loop-r-init c = (refl, begins_none _ _)
