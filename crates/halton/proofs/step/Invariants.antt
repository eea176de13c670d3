-- The loop carries over the digits that are the last of the base; y and the answer stay below the denominator. Assumes nothing.
use mathlib.Core.Path.{◌≡◌}
use Prim.Native.Nat.{◌+◌, ◌-◌, ◌*◌, ◌^◌, ◌≤◌, ◌<◌}
use native.Mathlib.Nat.{mod-lt, div-lt_self}
use native.Mathlib.Omega.{arith}
use Rattle.numbers.proofs.DepthLaws.{denominator_lt}
use Rattle.permutation.specs.Permutes.{Permutes}
use Rattle.permutation.specs.Families.{image_of}
use Rattle.permutation.proofs.FamilyLaws.{image_permutes}
use Rattle.halton.specs.Axis.{numerator}
use Rattle.halton.proofs.SteppingLaws.{Stepping, stepping_start, stepping_lt, stepping_share, stepping_up, stepping_carry, stepping_end}
use Rattle.halton.proofs.step.Given as goal

abbrev pub invariant-loop-w : goal.invariant-loop-w
invariant-loop-w l = Stepping (image_of l.family l.b) l.b (numerator (image_of l.family l.b) l.b (l.n + 1)) l.w l.rest l.y

abbrev pub decreases-loop-w : goal.decreases-loop-w
decreases-loop-w l = l.w
