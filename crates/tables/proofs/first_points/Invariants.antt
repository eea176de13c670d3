-- `tables::first_points` meets its contract: the entries up to d are points. Assumes nothing.
use Rattle.numbers.specs.Listed.{Begins}
use Rattle.halton.specs.Axis.{numerator}
use Rattle.halton.specs.Images.{image_in}
use Rattle.tables.proofs.first_points.Given as goal

abbrev pub invariant-loop-d : goal.invariant-loop-d
invariant-loop-d l = Begins (numerator (image_in l.l) l.b) l.d l.t
