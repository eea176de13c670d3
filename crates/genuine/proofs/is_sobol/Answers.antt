-- The first part that fails decides; the last decides where the others hold. Assumes nothing.
use Rattle.fitting.proofs.AnswerLaws.{failed, rests}
use Rattle.genuine.proofs.is_sobol.Goals as goal

pub returns-then-not-is_zero : goal.returns-then-not-is_zero
returns-then-not-is_zero c = failed c.is_zero.ensures c.if-not-is_zero.true (λ f. f.bases_zero)

pub returns-then-not-is_zero-2 : goal.returns-then-not-is_zero-2
returns-then-not-is_zero-2 c = failed c.is_zero-2.ensures c.if-not-is_zero-2.true (λ f. f.polynomials_zero)

pub returns-then-not-is_zero-3 : goal.returns-then-not-is_zero-3
returns-then-not-is_zero-3 c = failed c.is_zero-3.ensures c.if-not-is_zero-3.true (λ f. f.directions_zero)

pub returns : goal.returns
returns c =
    rests c.are_axes.ensures
    (λ z. record {
      axes_fit = z;
      bases_zero = c.is_zero.ensures.0 c.if-not-is_zero.false;
      polynomials_zero = c.is_zero-2.ensures.0 c.if-not-is_zero-2.false;
      directions_zero = c.is_zero-3.ensures.0 c.if-not-is_zero-3.false;
    })
    (λ f. f.axes_fit)
