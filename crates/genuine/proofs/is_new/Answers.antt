-- The loop's invariant: the polynomial stands at none of the places so far. Assumes nothing.
use mathlib.Core.Path.{◌≡◌}
use native.Mathlib.Omega.{arith}
use Rattle.fitting.proofs.AnswerLaws.{no, yes, new_none, new_more}
use Rattle.genuine.proofs.is_new.Goals as goal

pub loop-j-init : goal.loop-j-init
loop-j-init c = new_none _ _

pub returns-then-p-polynomials : goal.returns-then-p-polynomials
returns-then-p-polynomials c = let j = c.loop-j.j in no (λ f. f.each j (omega arith) (omega arith))

pub loop-j-preserved : goal.loop-j-preserved
loop-j-preserved c = new_more c.loop-j.invariant (λ e. omega (arith, e))

pub returns : goal.returns
returns c =
    let l = c.loop-j in
    let e : l.j ≡ c.args.n = omega arith in
    yes (rw e at l.invariant)
