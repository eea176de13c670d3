-- Each return is a case of what is found. Assumes nothing.
use mathlib.Core.Path.{◌≡◌}
use native.Mathlib.Omega.{arith}
use Rattle.plan.specs.Plan.{OneToSix, HaltonFamily}
use Rattle.plan_check.specs.Found.{BasesFound, AxesFound, Found, FieldsFound}
use Rattle.plan_check.proofs.FoundLaws.{checked_by}
use Rattle.plan_check.proofs.check.Goals as goal

pub returns-then-family-gt3 : goal.returns-then-family-gt3
returns-then-family-gt3 c = rw c.report.ensures (Found.bad_family (omega arith), λ e. omega arith)

pub returns-then-axes-lt1 : goal.returns-then-axes-lt1
returns-then-axes-lt1 c = rw c.report-then-axes-lt1.ensures (Found.bad_count (omega arith) (λ few. omega (arith, few.0)), λ e. omega arith)

pub returns-then-axes-gt6 : goal.returns-then-axes-gt6
returns-then-axes-gt6 c = rw c.report-then-axes-gt6.ensures (Found.bad_count (omega arith) (λ few. omega (arith, few.1)), λ e. omega arith)

pub returns-then-family-eq2 : goal.returns-then-family-eq2
returns-then-family-eq2 c =
    let p = c.args.p in
    let there : p.family ≡ 2 = omega arith in
    let few : OneToSix p.axes = (omega arith, omega arith) in
    checked_by {F = AxesFound p.polynomials.now p.ms.now p.axes} {G = FieldsFound p} _ (λ f a. Found.sobol there few a) c.check_axes.ensures

pub returns : goal.returns
returns c =
    let p = c.args.p in
    let kind : HaltonFamily p.family = (omega arith, λ e. omega arith) in
    let few : OneToSix p.axes = (omega arith, omega arith) in
    checked_by {F = BasesFound p.bases.now p.axes} {G = FieldsFound p} _ (λ f b. Found.halton kind few b) c.check_bases.ensures
