-- The points of a valid plan: how many numbers they have, and that each numerator is below its denominator. Assumes nothing.
use mathlib.Core.Path.{◌≡◌}
use Prim.Native.Nat.{ℕ, ◌^◌, ◌<◌}
use native.Mathlib.Omega.{arith}
use lib.ListN.{length, get_or}
use Rattle.numbers.proofs.DepthLaws.{denominator_lt}
use Rattle.numbers.proofs.ListedLaws.{listed_length}
use Rattle.halton.proofs.ImageLaws.{image_digits}
use Rattle.halton.proofs.AxisLaws.{numerator_below}
use Rattle.sobol.proofs.DirectionLaws.{directions_lt}
use Rattle.sobol.proofs.SteppingLaws.{stepped_lt}
use Rattle.plan.specs.Plan.{Axis, no_axis, ValidAxis, Plan, halton, sobol, Valid, OneToSix}
use Rattle.points.specs.Point.{axis_count, axis_directions, denominator_of, numerator_of, point_of}

pub axis_count_lem : (p : Plan) → Valid p → OneToSix (axis_count p)
unfolding Valid axis_count
axis_count_lem (halton family bases) v = v.1
axis_count_lem (sobol axes) v = v.0

-- ---- numerators and denominators

pub denominator_of_lt : (p : Plan) → Valid p → (i : ℕ) → i < axis_count p → denominator_of p i < 2 ^ 40
unfolding Valid axis_count denominator_of
denominator_of_lt (halton family bases) v i h = denominator_lt (get_or bases i 0) (v.2.low i h) (v.2.high i h)
denominator_of_lt (sobol axes) v i h = omega arith

pub axis_directions_lt : (x : Axis) → ValidAxis x → (j : ℕ) → get_or (axis_directions x) j 0 < 2 ^ 32
axis_directions_lt x v = directions_lt (length x.ms) x.polynomial x.ms v.given

pub numerator_of_lt : (p : Plan) → Valid p → (n i : ℕ) → i < axis_count p → numerator_of p n i < denominator_of p i
unfolding Valid axis_count denominator_of numerator_of
numerator_of_lt (halton family bases) v n i h =
    let l = v.2.low i h in
    numerator_below (image_digits family (get_or bases i 0) l) (omega arith) n
numerator_of_lt (sobol axes) v n i h =
    let x = get_or axes i no_axis in
    stepped_lt 32 (axis_directions x) (axis_directions_lt x (v.1.valid i h)) n

-- ---- points

pub point_of_length : (p : Plan) (n : ℕ) → length (point_of p n) ≡ axis_count p
unfolding point_of
point_of_length p n = listed_length (numerator_of p n) (axis_count p)
