-- `tables::grow` meets its contract: after the parts of the digits below d the table has d times as many points. Assumes nothing.
use Prim.Native.Nat.{◌*◌}
use Rattle.numbers.specs.Listed.{Begins}
use Rattle.halton.specs.Axis.{numerator}
use Rattle.halton.specs.Images.{image_in}
use Rattle.tables.proofs.grow.Given as goal

abbrev pub invariant-loop-d : goal.invariant-loop-d
invariant-loop-d l = Begins (numerator (image_in l.l) l.b) (l.d * l.size) l.t
