-- The first part that fails decides; the last decides where the others hold. Assumes nothing.
use native.Mathlib.Omega.{arith}
use Rattle.fitting.proofs.AnswerLaws.{no, failed, rests}
use Rattle.genuine.proofs.is_halton.Goals as goal

pub returns-then-s-gt3 : goal.returns-then-s-gt3
returns-then-s-gt3 c = no (λ f. omega (arith, f.kind.0))

pub returns-then-not-are_bases : goal.returns-then-not-are_bases
returns-then-not-are_bases c = failed c.are_bases.ensures c.if-not-are_bases.true (λ f. f.bases_fit)

pub returns-then-not-is_zero : goal.returns-then-not-is_zero
returns-then-not-is_zero c = failed c.is_zero.ensures c.if-not-is_zero.true (λ f. f.bases_zero)

pub returns-then-not-is_zero-2 : goal.returns-then-not-is_zero-2
returns-then-not-is_zero-2 c = failed c.is_zero-2.ensures c.if-not-is_zero-2.true (λ f. f.polynomials_zero)

pub returns : goal.returns
returns c =
    rests c.is_zero-3.ensures
    (λ z. record {
      kind = omega arith;
      bases_fit = c.are_bases.ensures.0 c.if-not-are_bases.false;
      bases_zero = c.is_zero.ensures.0 c.if-not-is_zero.false;
      polynomials_zero = c.is_zero-2.ensures.0 c.if-not-is_zero-2.false;
      directions_zero = z;
    })
    (λ f. f.directions_zero)
