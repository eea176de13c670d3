-- Parsed, checked and written: each return is an outcome. Assumes nothing.
use mathlib.Core.Path.{refl}
use native.Mathlib.Omega.{arith}
use Rattle.std.proofs.lemmas.Result.{err_from_is_err_and}
use Rattle.plan_builder.specs.Outcome.{Outcome}
use Rattle.plan_builder.proofs.BuildLaws.{writable, written_out, in_bounds}
use Rattle.plan_builder.proofs.build.Goals as goal

pub returns-in_err-p : goal.returns-in_err-p
returns-in_err-p c =
    let wrong = c.in_err-p.ensures in
    let p = err_from_is_err_and c.from_residual.result c.from_residual.ensures.1 in
    rw (p.1, p.2) record { outcome = Outcome.misspelled wrong.1 wrong.0; len_in_bounds = tt }

pub returns-in_err-check : goal.returns-in_err-check
returns-in_err-check c =
    let said = c.in_ok-p.ensures in
    let wrong = c.in_err-check.ensures in
    let p = err_from_is_err_and c.from_residual-in_err-check.result c.from_residual-in_err-check.ensures.1 in
    rw (p.1, p.2) record { outcome = Outcome.unsound _ _ _ _ _ said.spelled wrong.0 wrong.1 said.few said.size; len_in_bounds = tt }

pub write_plan-w-requires : goal.write_plan-w-requires
write_plan-w-requires c = writable c.in_ok-p.ensures c.in_ok-check.ensures refl

pub returns-then-w-ne0 : goal.returns-then-w-ne0
returns-then-w-ne0 c =
    let o = (written_out c.in_ok-p.ensures c.in_ok-check.ensures refl _ _ _ _ c.write_plan-w.ensures).1 (λ z. omega arith) in
    rw c.report.ensures record { outcome = o; len_in_bounds = tt }

pub returns : goal.returns
returns c =
    let o = (written_out c.in_ok-p.ensures c.in_ok-check.ensures refl _ _ _ _ c.write_plan-w.ensures).0 (omega arith) in
    record { outcome = o; len_in_bounds = in_bounds o }
