-- `halton::jump` meets its contract: each digit by a product until nothing of the index is left, and then the leading zeros by one. Assumes nothing.
use mathlib.Core.Path.{◌≡◌, refl}
use Prim.Native.Nat.{ℕ, ◌+◌, ◌-◌, ◌*◌, ◌/◌, ◌^◌, ◌<◌}
use native.Mathlib.Nat.{div-le_self, div-lt_self, mul-le-mul_left}
use native.Mathlib.Omega.{arith}
use Rattle.numbers.proofs.DepthLaws.{denominator_lt, rising_pos, rising_fits}
use Rattle.numbers.proofs.ReciprocalLaws.{Divided, divided_any, divided}
use Rattle.halton.specs.Axis.{numerator}
use Rattle.halton.specs.Images.{image_by, DigitMap}
use Rattle.halton.proofs.AxisLaws.{numerator_below}
use Rattle.halton.proofs.ImageLaws.{image_by_digits}
use Rattle.halton.proofs.ReversingLaws.{Reversing, reversing_none, reversing_divided, reversing_lt, reversing_below, reversing_zeros, reversing_whole}
use Rattle.halton.proofs.jump.Given as goal

abbrev pub invariant-loop-rest : goal.invariant-loop-rest
invariant-loop-rest l = Divided l.b l.rest l.q × Reversing (image_by l.family l.b l.images) l.b l.n l.x l.rest l.p

abbrev pub decreases-loop-rest : goal.decreases-loop-rest
decreases-loop-rest l = l.rest
