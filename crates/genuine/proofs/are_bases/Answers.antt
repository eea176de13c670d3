-- The loop's invariant: the bases so far fit. Assumes nothing.
use mathlib.Core.Path.{◌≡◌}
use native.Mathlib.Omega.{arith}
use Rattle.fitting.proofs.AnswerLaws.{no, yes, failed, no_bases, base_more}
use Rattle.genuine.proofs.are_bases.Goals as goal

pub loop-i-init : goal.loop-i-init
loop-i-init c = no_bases _

pub returns-then-b-lt2 : goal.returns-then-b-lt2
returns-then-b-lt2 c = let i = c.loop-i.i in no (λ f. omega (arith, f.low i (omega arith)))

pub returns-then-b-gt256 : goal.returns-then-b-gt256
returns-then-b-gt256 c = let i = c.loop-i.i in no (λ f. omega (arith, f.high i (omega arith)))

pub returns-then-not-is_coprime : goal.returns-then-not-is_coprime
returns-then-not-is_coprime c =
    let i = c.loop-i.i in
    failed c.is_coprime.ensures c.if-not-is_coprime.true (λ f. record { each = λ j h. f.coprime i j h (omega arith) })

pub loop-i-preserved : goal.loop-i-preserved
loop-i-preserved c =
    let l = c.loop-i in
    base_more l.invariant (omega arith) (omega arith) (c.is_coprime.ensures.0 c.if-not-is_coprime.false)

pub returns : goal.returns
returns c =
    let l = c.loop-i in
    let e : l.i ≡ c.args.n = omega arith in
    yes (rw e at l.invariant)
