-- The axis is read field by field, and each return is one refusal of the reading. Assumes nothing.
use mathlib.Core.Path.{sym, ap, ◌∙◌}
use Prim.Native.Nat.{◌+◌, ◌*◌, ◌≤◌}
use native.Mathlib.Omega.{arith}
use lib.ListN.{length}
use Rattle.std.proofs.lemmas.Result.{err_from_is_err_and}
use Rattle.plan.specs.Reading.{polynomial_of}
use Rattle.plan.proofs.PartLaws.{long_field}
use Rattle.sobol_reader.proofs.AxisLaws.{DegreeRead, PolynomialRead, polynomial_fits, axis_short, axis_high, axis_cut, axis_unfit, axis_twin, axis_stop, axis_end}
use Rattle.sobol_reader.proofs.read_axis.Goals as goal
use Rattle.sobol_reader.proofs.read_axis.Goals.{After-field-d, After-polynomial-p, Else-is_short, Else-is_short-2}

-- the degree lies inside the bytes
after_degree : (c : Else-is_short) → let a = c.args in a.start + 4 ≤ 8 * length a.bytes.now
after_degree c =
    long_field c.args.bytes.now c.args.start 4 c.requires.0 c.is_short.ensures c.if-is_short.false

-- and so do the coefficients
after_coefficients : (c : Else-is_short-2) → let a = c.args in
    a.start + 4 + c.coefficient_count-w.result ≤ 8 * length a.bytes.now
after_coefficients c = let after_degree : let a = c.args in a.start + 4 ≤ 8 * length a.bytes.now = long_field c.args.bytes.now c.args.start 4 c.requires.0 c.is_short.ensures c.if-is_short.false in
    let a = c.args in
    long_field a.bytes.now (a.start + 4) _ (after_degree) c.is_short-2.ensures c.if-is_short-2.false

degree : (c : After-field-d) → let a = c.args in DegreeRead a.bytes.now a.start c.field-d.result
degree c = record { long = sym c.is_short.ensures ∙ c.if-is_short.false; value = c.field-d.ensures.0 }

polynomial : (c : After-polynomial-p) → let a = c.args in
    PolynomialRead a.bytes.now a.start c.field-d.result c.coefficient_count-w.result c.polynomial-p.result
polynomial c = let degree : let a = c.args in DegreeRead a.bytes.now a.start c.field-d.result = record { long = sym c.is_short.ensures ∙ c.if-is_short.false; value = c.field-d.ensures.0 } in
    record {
      degree = degree;
      most = omega arith;
      width = c.coefficient_count-w.ensures;
      long = sym c.is_short-2.ensures ∙ c.if-is_short-2.false;
      value = c.polynomial-p.ensures ∙ ap (polynomial_of c.field-d.result) c.field.ensures.0;
    }

pub returns-then-is_short : goal.returns-then-is_short
returns-then-is_short c = axis_short _ _ _ _ c.is_short.ensures c.if-is_short.true

pub field-d-requires : goal.field-d-requires
field-d-requires c = omega (arith, after_degree c)

pub returns-then-d-gt12 : goal.returns-then-d-gt12
returns-then-d-gt12 c = axis_high _ _ _ _ (degree (goal.at.returns-then-d-gt12 c).After-field-d) (omega arith)

pub is_short-requires-2 : goal.is_short-requires-2
is_short-requires-2 c = omega (arith, after_degree (goal.at.is_short-requires-2 c).Else-is_short)

pub returns-then-is_short-2 : goal.returns-then-is_short-2
returns-then-is_short-2 c =
    axis_cut _ _ _ _ (degree (goal.at.returns-then-is_short-2 c).After-field-d) (omega arith) c.coefficient_count-w.ensures c.is_short-2.ensures c.if-is_short-2.true

pub field-requires : goal.field-requires
field-requires c = omega (arith, after_coefficients c)

pub not_primitive-requires : goal.not_primitive-requires
not_primitive-requires c = (omega arith, polynomial_fits (polynomial c))

pub returns-then-not_primitive : goal.returns-then-not_primitive
returns-then-not_primitive c =
    axis_unfit _ _ _ _ (polynomial (goal.at.returns-then-not_primitive c).After-polynomial-p) c.not_primitive.ensures c.if-not_primitive.true

pub returns-then-is_repeated : goal.returns-then-is_repeated
returns-then-is_repeated c =
    axis_twin _ _ _ _ (polynomial (goal.at.returns-then-is_repeated c).After-polynomial-p) c.not_primitive.ensures c.if-not_primitive.false c.is_repeated.ensures c.if-is_repeated.true

pub read_ms-requires : goal.read_ms-requires
read_ms-requires c = omega (arith, after_coefficients (goal.at.read_ms-requires c).Else-is_short-2)

pub returns-in_err-at : goal.returns-in_err-at
returns-in_err-at c =
    let p = err_from_is_err_and c.from_residual.result c.from_residual.ensures.1 in
    rw (p.1, p.2) (axis_stop _ _ _ _ (polynomial (goal.at.returns-in_err-at c).After-polynomial-p) c.not_primitive.ensures c.if-not_primitive.false c.is_repeated.ensures c.if-is_repeated.false
    c.in_err-at.ensures)

pub returns : goal.returns
returns c =
    axis_end _ _ _ _ (polynomial (goal.at.returns c).After-polynomial-p) c.not_primitive.ensures c.if-not_primitive.false c.is_repeated.ensures c.if-is_repeated.false
    c.in_ok-at.ensures
