-- The loop's invariant: the words so far fit. Assumes nothing.
use mathlib.Core.Path.{◌≡◌}
use Prim.Native.Nat.{◌-◌, ◌≤◌}
use native.Mathlib.Omega.{arith}
use borrow.Author.Tests.{not-true, not-false}
use Rattle.fitting.specs.Fits.{FitFirst}
use Rattle.fitting.proofs.AnswerLaws.{yes, failed}
use Rattle.fitting.proofs.WordLaws.{first_none, first_more}
use Rattle.axis_test.proofs.are_given.Goals as goal

pub loop-j-init : goal.loop-j-init
loop-j-init c = first_none _

pub returns-then-not-is_given : goal.returns-then-not-is_given
returns-then-not-is_given c =
    let j = c.loop-j.j in
    failed c.is_given.ensures c.if-not-is_given.true (λ f. f.each j (omega arith))

pub loop-j-preserved : goal.loop-j-preserved
loop-j-preserved c = first_more c.loop-j.invariant (c.is_given.ensures.0 c.if-not-is_given.false)

pub returns : goal.returns
returns c =
    let l = c.loop-j in
    let e : l.j ≡ c.args.d = omega arith in
    yes (rw e at l.invariant)
