-- The loop's invariant: the polynomial stands at none of the places so far. Assumes nothing.
use mathlib.Core.Path.{◌≡◌}
use native.Mathlib.Omega.{arith}
use borrow.Author.Count.{below_more}
use Rattle.plan_check.proofs.FoundLaws.{none_before, first_here, first_none, new_at, twin_at}
use Rattle.plan_check.proofs.first_twin.Goals as goal

pub loop-j-init : goal.loop-j-init
loop-j-init c = none_before _

pub returns-then-p-polynomials : goal.returns-then-p-polynomials
returns-then-p-polynomials c =
    let l = c.loop-j in
    (omega arith, first_here l.j (omega arith) l.invariant (twin_at _ _ l.j (omega arith)))

pub loop-j-preserved : goal.loop-j-preserved
loop-j-preserved c =
    let l = c.loop-j in
    below_more _ l.j l.invariant (new_at _ _ l.j (λ e. omega (arith, e)))

pub returns : goal.returns
returns c =
    let l = c.loop-j in
    let e : l.j ≡ c.args.n = omega arith in
    first_none (rw e at l.invariant)
