-- The loop's invariant: the words so far keep to the recurrence. Assumes nothing.
use mathlib.Core.Path.{◌≡◌}
use Prim.Native.Nat.{◌-◌, ◌≤◌}
use native.Mathlib.Omega.{arith}
use Rattle.fitting.specs.Fits.{FitRest}
use Rattle.fitting.proofs.AnswerLaws.{no, yes}
use Rattle.fitting.proofs.WordLaws.{rest_none, rest_more}
use Rattle.axis_test.proofs.are_ruled.Goals as goal

pub loop-i-init : goal.loop-i-init
loop-i-init c = rest_none _ _ _

pub returns-then-v-i : goal.returns-then-v-i
returns-then-v-i c =
    let i = c.loop-i.i in
    no (λ f. omega (arith, f.each i (omega arith) (omega arith), c.by_rule-x.ensures))

pub loop-i-preserved : goal.loop-i-preserved
loop-i-preserved c = rest_more c.loop-i.invariant (omega (arith, c.by_rule-x.ensures))

pub returns : goal.returns
returns c =
    let l = c.loop-i in
    let e : l.i ≡ 32 = omega arith in
    yes (rw e at l.invariant)
