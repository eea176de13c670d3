-- Euclid's rule keeps the greatest common divisor of the two numbers that the loop holds. Assumes nothing.
use mathlib.Core.Path.{refl, sym, ◌∙◌}
use native.Mathlib.Nat.{mod-lt}
use native.Mathlib.Omega.{arith}
use Rattle.numbers.proofs.GcdLaws.{gcd_step, gcd_zero}
use Rattle.numbers.proofs.gcd.Goals as goal

pub loop-y-init : goal.loop-y-init
loop-y-init c = refl

pub loop-y-smaller : goal.loop-y-smaller
loop-y-smaller c = mod-lt c.loop-y.x (omega arith)

pub loop-y-preserved : goal.loop-y-preserved
loop-y-preserved c = sym (gcd_step _ _ (λ e. omega arith)) ∙ c.loop-y.invariant

pub returns : goal.returns
returns c = sym (gcd_zero _ _ (omega arith)) ∙ c.loop-y.invariant
