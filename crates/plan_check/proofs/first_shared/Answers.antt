-- The loop's invariant: b is coprime to the bases so far. Assumes nothing.
use mathlib.Core.Path.{◌≡◌}
use native.Mathlib.Omega.{arith}
use borrow.Author.Count.{below_more}
use Rattle.plan_check.proofs.FoundLaws.{none_before, first_here, first_none, gcd_coprime, gcd_shared}
use Rattle.plan_check.proofs.first_shared.Goals as goal

pub loop-j-init : goal.loop-j-init
loop-j-init c = none_before _

pub returns-then-gcd-ne1 : goal.returns-then-gcd-ne1
returns-then-gcd-ne1 c =
    let l = c.loop-j in
    (omega arith, first_here l.j (omega arith) l.invariant (gcd_shared _ _ l.j _ c.gcd.ensures (λ e. omega arith)))

pub loop-j-preserved : goal.loop-j-preserved
loop-j-preserved c =
    let l = c.loop-j in
    below_more _ l.j l.invariant (gcd_coprime _ _ l.j _ c.gcd.ensures (omega arith))

pub returns : goal.returns
returns c =
    let l = c.loop-j in
    let e : l.j ≡ c.args.n = omega arith in
    first_none (rw e at l.invariant)
