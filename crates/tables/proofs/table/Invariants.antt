-- `tables::table` meets its contract: the weight of the last digit times the number of points stays the denominator. Assumes nothing.
use mathlib.Core.Path.{◌≡◌}
use Prim.Native.Nat.{◌-◌, ◌*◌, ◌≤◌}
use lib.ListN.{length}
use Rattle.numbers.specs.Depth.{denominator}
use Rattle.halton.specs.Axis.{numerator}
use Rattle.halton.specs.Images.{image_in}
use Rattle.columns.specs.Tiles.{Table}
use Rattle.tables.proofs.table.Given as goal

abbrev pub invariant-loop-size : goal.invariant-loop-size
invariant-loop-size l = (l.size ≤ 256) × (l.w * l.size ≡ denominator l.b) × Table (numerator (image_in l.l) l.b) l.b l.size l.t × (length l.t ≡ length l.initial.t)

abbrev pub decreases-loop-size : goal.decreases-loop-size
decreases-loop-size l = 257 - l.size
