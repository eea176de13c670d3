-- Only from degree 1 on is the test for a primitive polynomial asked. Assumes nothing.
use mathlib.Core.Path.{sym, ap, ◌∙◌}
use mathlib.Core.Bool.{true≢false}
use Prim.Native.Nat.{ℕ}
use native.Mathlib.Omega.{arith}
use Rattle.binary.specs.Polynomial.{is_primitive}
use Rattle.fitting.proofs.AxisLaws.{degree_is, degree_low}
use Rattle.fitting.proofs.WordLaws.{polynomial_none, polynomial_is}
use Rattle.plan_check.specs.Found.{PolynomialFound}
use Rattle.plan_check.proofs.check_polynomial.Goals as goal

pub returns-then-p-gt8191 : goal.returns-then-p-gt8191
returns-then-p-gt8191 c = (PolynomialFound.high (omega arith), λ e. omega arith)

pub returns-then-p-ne1 : goal.returns-then-p-ne1
returns-then-p-ne1 c = (PolynomialFound.non_primitive (omega arith) (λ f. omega (arith, f.constant)), λ e. omega arith)

pub degree-d-requires : goal.degree-d-requires
degree-d-requires c = degree_low c.args.p (omega arith)

pub returns-then-d-eq0 : goal.returns-then-d-eq0
returns-then-d-eq0 c =
    polynomial_none c.args.p (omega arith) (omega arith) (omega (arith, c.degree-d.ensures))

pub is_primitive-requires : goal.is_primitive-requires
is_primitive-requires c =
    let p = c.args.p in
    let d = degree_low p (omega arith) in
    (omega arith, omega (arith, c.degree-d.ensures), rw c.degree-d.ensures (degree_is p (omega arith)))

pub returns-then-is_primitive : goal.returns-then-is_primitive
returns-then-is_primitive c =
    let p = c.args.p in
    let d = c.degree-d.ensures in
    (polynomial_is p (omega arith) (omega arith) (omega (arith, d)) (c.is_primitive.ensures ∙ ap (λ (x : ℕ). is_primitive x p) d)).0 c.if-is_primitive.true

pub returns : goal.returns
returns c =
    let p = c.args.p in
    let d = c.degree-d.ensures in
    let iff = polynomial_is p (omega arith) (omega arith) (omega (arith, d)) (c.is_primitive.ensures ∙ ap (λ (x : ℕ). is_primitive x p) d) in
    (PolynomialFound.non_primitive (omega arith) (λ f. true≢false (sym (iff.1 f) ∙ c.if-is_primitive.false)), λ e. omega arith)
