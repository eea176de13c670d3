-- The loop's invariant: b is coprime to the bases so far. Assumes nothing.
use mathlib.Core.Path.{◌≡◌}
use native.Mathlib.Omega.{arith}
use Rattle.fitting.proofs.AnswerLaws.{no, yes, coprime_none, coprime_more, not_coprime}
use Rattle.genuine.proofs.is_coprime.Goals as goal

pub loop-j-init : goal.loop-j-init
loop-j-init c = coprime_none _ _

pub gcd-requires : goal.gcd-requires
gcd-requires c = tt

pub returns-then-gcd-ne1 : goal.returns-then-gcd-ne1
returns-then-gcd-ne1 c =
    no (not_coprime c.loop-j.j (omega arith) c.gcd.ensures (λ e. omega arith))

pub loop-j-preserved : goal.loop-j-preserved
loop-j-preserved c =
    coprime_more c.loop-j.invariant c.gcd.ensures (omega arith)

pub returns : goal.returns
returns c =
    let l = c.loop-j in
    let e : l.j ≡ c.args.n = omega arith in
    yes (rw e at l.invariant)
