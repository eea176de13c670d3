-- The loop's invariant: the words so far keep to the recurrence. Assumes nothing.
use mathlib.Core.Path.{◌≡◌}
use Prim.Native.Nat.{◌-◌, ◌≤◌}
use native.Mathlib.Omega.{arith}
use Rattle.fitting.specs.Fits.{FitRest}
use Rattle.fitting.proofs.AnswerLaws.{no, yes}
use Rattle.fitting.proofs.WordLaws.{rest_none, rest_more}
use Rattle.axis_test.proofs.are_ruled.Given as goal

abbrev pub invariant-loop-i : goal.invariant-loop-i
invariant-loop-i l = FitRest l.d l.p l.v l.i
