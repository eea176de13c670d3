-- The polynomial, its twin, its first wrong m: each return is a case of what is found. Assumes nothing.
use native.Mathlib.Omega.{arith}
use Rattle.fitting.proofs.AxisLaws.{degree_low}
use Rattle.plan_check.specs.Found.{AxisFound}
use Rattle.plan_check.proofs.FoundLaws.{axis_sound, axis_even, axis_large}
use Rattle.plan_check.proofs.check_axis.Goals as goal

pub returns-in-Err : goal.returns-in-Err
returns-in-Err c =
    let n = c.in-Err.ensures in
    rw c.report.ensures (AxisFound.polynomial _ n.0 n.1, n.1)

pub returns-in-Some : goal.returns-in-Some
returns-in-Some c =
    let s = c.in-Some in
    rw c.report-in-Some.ensures (AxisFound.twin s.j c.in_default.ensures s.ensures.0 s.ensures.1, λ e. omega arith)

pub degree-d-requires : goal.degree-d-requires
degree-d-requires c = degree_low _ c.in_default.ensures.high

pub first_wrong-requires : goal.first_wrong-requires
first_wrong-requires c =
    (omega arith, omega (arith, c.degree-d.ensures, degree_low _ c.in_default.ensures.high))

pub overflow_add-m : goal.overflow_add-m
overflow_add-m c =
    omega (arith, c.in-Some-first_wrong.ensures.0, c.degree-d.ensures, degree_low _ c.in_default.ensures.high)

pub offset_bounds-ms-i : goal.offset_bounds-ms-i
offset_bounds-ms-i c =
    omega (arith, c.in-Some-first_wrong.ensures.0, c.degree-d.ensures, degree_low _ c.in_default.ensures.high)

pub bounds-ms-i : goal.bounds-ms-i
bounds-ms-i c =
    omega (arith, c.in-Some-first_wrong.ensures.0, c.degree-d.ensures, degree_low _ c.in_default.ensures.high)

pub returns-then-m-eq0 : goal.returns-then-m-eq0
returns-then-m-eq0 c =
    let s = c.in-Some-first_wrong in
    rw c.report-then-m-eq0.ensures
    (axis_even _ _ _ _ c.degree-d.ensures c.in_default.ensures c.in_default-first_twin.ensures s.k s.ensures.0 s.ensures.1 (omega arith), λ e. omega arith)

pub returns-in-Some-first_wrong : goal.returns-in-Some-first_wrong
returns-in-Some-first_wrong c =
    let s = c.in-Some-first_wrong in
    rw c.report-in-Some-first_wrong.ensures
    (axis_large _ _ _ _ c.degree-d.ensures c.in_default.ensures c.in_default-first_twin.ensures s.k s.ensures.0 s.ensures.1 (omega arith), λ e. omega arith)

pub returns : goal.returns
returns c =
    axis_sound _ _ _ _ c.degree-d.ensures c.in_default.ensures c.in_default-first_twin.ensures c.in_default-first_wrong.ensures
