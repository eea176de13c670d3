-- The loop's invariant: the m's so far are odd and small enough. Assumes nothing.
use mathlib.Core.Path.{◌≡◌}
use native.Mathlib.Omega.{arith}
use borrow.Author.Count.{below_more}
use Rattle.plan_check.proofs.FoundLaws.{none_before, first_here, first_none, given_odd, given_parity, some_digit, no_digit_left}
use Rattle.plan_check.proofs.first_wrong.Goals as goal

pub loop-k-init : goal.loop-k-init
loop-k-init c = none_before _

pub returns-then-m-ne1 : goal.returns-then-m-ne1
returns-then-m-ne1 c =
    let l = c.loop-k in
    (omega arith, first_here l.k (omega arith) l.invariant (λ g. omega (arith, given_parity _ _ l.k g)))

pub returns-then-m-k-ne0 : goal.returns-then-m-k-ne0
returns-then-m-k-ne0 c =
    let l = c.loop-k in
    (omega arith, first_here l.k (omega arith) l.invariant (λ g. some_digit _ _ l.k g (omega arith)))

pub loop-k-preserved : goal.loop-k-preserved
loop-k-preserved c =
    let l = c.loop-k in
    below_more _ l.k l.invariant (given_odd _ _ l.k (omega arith) (no_digit_left _ l.k (omega arith)))

pub returns : goal.returns
returns c =
    let l = c.loop-k in
    let e : l.k ≡ c.args.d = omega arith in
    first_none (rw e at l.invariant)
