-- The first part that fails decides; the last decides where the others hold. Assumes nothing.
use native.Mathlib.Omega.{arith}
use borrow.Author.Tests.{not-true, not-false}
use Rattle.fitting.specs.Fits.{FitPolynomial}
use Rattle.fitting.proofs.AnswerLaws.{failed, rests}
use Rattle.fitting.proofs.AxisLaws.{degree_low}
use Rattle.axis_test.proofs.is_axis.Goals as goal
use Rattle.axis_test.proofs.is_axis.Goals.{Else-not-is_polynomial}

good : (c : Else-not-is_polynomial) → FitPolynomial c.args.p
good c = c.is_polynomial.ensures.0 c.if-not-is_polynomial.false

pub is_polynomial-requires : goal.is_polynomial-requires
is_polynomial-requires c = tt

pub returns-then-not-is_polynomial : goal.returns-then-not-is_polynomial
returns-then-not-is_polynomial c = failed c.is_polynomial.ensures c.if-not-is_polynomial.true (λ f. f.polynomial)

pub degree-d-requires : goal.degree-d-requires
degree-d-requires c = degree_low _ (good c).high

pub are_given-requires : goal.are_given-requires
are_given-requires c = (c.requires, omega (arith, c.degree-d.ensures, degree_low _ (good (goal.at.are_given-requires c).Else-not-is_polynomial).high))

pub returns-then-not-are_given : goal.returns-then-not-are_given
returns-then-not-are_given c = failed c.are_given.ensures c.if-not-are_given.true (λ f. rw c.degree-d.ensures f.given)

pub are_ruled-requires : goal.are_ruled-requires
are_ruled-requires c =
    (c.requires, omega (arith, c.degree-d.ensures, degree_low _ (good (goal.at.are_ruled-requires c).Else-not-is_polynomial).high))

pub returns : goal.returns
returns c =
    let d = c.degree-d.ensures in
    rests c.are_ruled.ensures
    (λ z. record {
      polynomial = good (goal.at.returns c).Else-not-is_polynomial;
      given = rw d at (c.are_given.ensures.0 c.if-not-are_given.false);
      rule = rw d at z;
    })
    (λ f. rw d f.rule)
