-- The bases from place j on decide for all of them. Assumes nothing.
use mathlib.Core.Path.{refl}
use native.Mathlib.Omega.{arith}
use Rattle.halton_reader.proofs.BasesLaws.{shares_end, shares_stop, shares_next}
use Rattle.halton_reader.proofs.shares_factor.Goals as goal

pub loop-base-init : goal.loop-base-init
loop-base-init c = record { same = refl }

pub returns-then-gcd-ne1 : goal.returns-then-gcd-ne1
returns-then-gcd-ne1 c =
    shares_stop c.loop-base.invariant (omega arith) c.gcd.ensures (λ e. omega arith)

pub loop-base-preserved : goal.loop-base-preserved
loop-base-preserved c =
    shares_next c.loop-base.invariant (omega arith) c.gcd.ensures (omega arith) (omega arith)

pub returns : goal.returns
returns c = shares_end c.loop-base.invariant (omega arith)
