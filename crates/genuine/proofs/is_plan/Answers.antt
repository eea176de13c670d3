-- The family picks the rules. Assumes nothing.
use native.Mathlib.Omega.{arith}
use Rattle.fitting.proofs.AnswerLaws.{rests}
use Rattle.genuine.proofs.is_plan.Goals as goal

pub returns-then-s-eq2 : goal.returns-then-s-eq2
returns-then-s-eq2 c =
    rests c.is_sobol.ensures (λ z. record { if_halton = λ n. absurd (n (omega arith)); if_sobol = λ e. z }) (λ f. f.if_sobol (omega arith))

pub is_halton-requires : goal.is_halton-requires
is_halton-requires c = (c.requires, λ e. omega arith)

pub returns : goal.returns
returns c =
    rests c.is_halton.ensures (λ z. record { if_halton = λ n. z; if_sobol = λ e. absurd (omega (arith, e)) }) (λ f. f.if_halton (λ e. omega (arith, e)))
