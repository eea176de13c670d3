-- A numerator below its denominator lies before the axis's end. Assumes nothing.
use native.Mathlib.Nat.{div-le_of_le-mul}
use Rattle.std.proofs.Common.{arith}
use Rattle.svg.proofs.drawn.place.Goals as goal

pub returns-then-x-d : goal.returns-then-x-d
returns-then-x-d c = div-le_of_le-mul c.args.d (omega arith)
