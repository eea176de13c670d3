-- The header is read field by field, and each return is one refusal of the reading or a family's body. Assumes nothing.
use mathlib.Core.Path.{sym, ap, ◌∙◌}
use Prim.Native.Nat.{◌*◌, ◌≤◌}
use native.Mathlib.Omega.{arith}
use lib.ListN.{length}
use Rattle.plan.specs.Answer.{answer_of}
use Rattle.plan.proofs.PartLaws.{long_field, field_below}
use Rattle.reader.proofs.PlanLaws.{FamilyRead, AxesRead, family_short, axes_short, axes_none, axes_many, to_sobol, to_halton}
use Rattle.reader.proofs.read_plan.Goals as goal
use Rattle.reader.proofs.read_plan.Goals.{After-field-axes, After-field-family, Else-is_short, Else-is_short-2}

-- the family lies inside the bytes
after_family : (c : Else-is_short) → 2 ≤ 8 * length c.args.bytes.now
after_family c = long_field c.args.bytes.now 0 2 (omega arith) c.is_short.ensures c.if-is_short.false

-- and so does the number of axes
after_axes : (c : Else-is_short-2) → 5 ≤ 8 * length c.args.bytes.now
after_axes c = let after_family : 2 ≤ 8 * length c.args.bytes.now = long_field c.args.bytes.now 0 2 (omega arith) c.is_short.ensures c.if-is_short.false in
    long_field c.args.bytes.now 2 3 (after_family) c.is_short-2.ensures c.if-is_short-2.false

family : (c : After-field-family) → FamilyRead c.args.bytes.now c.field-family.result
family c = record { long = sym c.is_short.ensures ∙ c.if-is_short.false; value = c.field-family.ensures.0 }

axes : (c : After-field-axes) → AxesRead c.args.bytes.now c.field-family.result c.field-axes.result
axes c = let family : FamilyRead c.args.bytes.now c.field-family.result = record { long = sym c.is_short.ensures ∙ c.if-is_short.false; value = c.field-family.ensures.0 } in
    record {
      family = family;
      long = sym c.is_short-2.ensures ∙ c.if-is_short-2.false;
      value = c.field-axes.ensures.0;
    }

pub returns-then-is_short : goal.returns-then-is_short
returns-then-is_short c = c.no_plan.ensures ∙ sym (ap answer_of (family_short _ c.is_short.ensures c.if-is_short.true))

pub field-family-requires : goal.field-family-requires
field-family-requires c = omega (arith, after_family c)

pub is_short-requires-2 : goal.is_short-requires-2
is_short-requires-2 c = omega (arith, after_family (goal.at.is_short-requires-2 c).Else-is_short)

pub returns-then-is_short-2 : goal.returns-then-is_short-2
returns-then-is_short-2 c =
    c.no_plan-then-is_short-2.ensures ∙ sym (ap answer_of (axes_short (family (goal.at.returns-then-is_short-2 c).After-field-family) c.is_short-2.ensures c.if-is_short-2.true))

pub field-axes-requires : goal.field-axes-requires
field-axes-requires c = omega (arith, after_axes c)

pub returns-then-axes-eq0 : goal.returns-then-axes-eq0
returns-then-axes-eq0 c = c.no_plan-then-axes-eq0.ensures ∙ sym (ap answer_of (axes_none (axes (goal.at.returns-then-axes-eq0 c).After-field-axes) (omega arith)))

pub returns-then-axes-eq7 : goal.returns-then-axes-eq7
returns-then-axes-eq7 c = c.no_plan-then-axes-eq7.ensures ∙ sym (ap answer_of (axes_many (axes (goal.at.returns-then-axes-eq7 c).After-field-axes) (λ e. omega arith) (omega arith)))

pub read_sobol-requires : goal.read_sobol-requires
read_sobol-requires c =
    omega (arith, after_axes (goal.at.read_sobol-requires c).Else-is_short-2, field_below _ 2 3 c.field-axes.ensures.0)

pub returns-then-family-eq2 : goal.returns-then-family-eq2
returns-then-family-eq2 c =
    c.read_sobol.ensures ∙ sym (ap answer_of (to_sobol (axes (goal.at.returns-then-family-eq2 c).After-field-axes) (λ e. omega arith) (λ e. omega arith) (omega arith)))

pub read_halton-requires : goal.read_halton-requires
read_halton-requires c =
    omega (arith, after_axes (goal.at.read_halton-requires c).Else-is_short-2, field_below _ 2 3 c.field-axes.ensures.0)

pub returns : goal.returns
returns c =
    c.read_halton.ensures ∙ sym (ap answer_of (to_halton (axes (goal.at.returns c).After-field-axes) (λ e. omega arith) (λ e. omega arith) (λ e. omega arith)))
