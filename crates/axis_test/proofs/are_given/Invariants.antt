-- The loop's invariant: the words so far fit. Assumes nothing.
use mathlib.Core.Path.{◌≡◌}
use Prim.Native.Nat.{◌-◌, ◌≤◌}
use native.Mathlib.Omega.{arith}
use borrow.Author.Tests.{not-true, not-false}
use Rattle.fitting.specs.Fits.{FitFirst}
use Rattle.fitting.proofs.AnswerLaws.{yes, failed}
use Rattle.fitting.proofs.WordLaws.{first_none, first_more}
use Rattle.axis_test.proofs.are_given.Given as goal

abbrev pub invariant-loop-j : goal.invariant-loop-j
invariant-loop-j l = FitFirst l.v l.j
