-- The loop's invariant: the bases so far are valid. Assumes nothing.
use mathlib.Core.Path.{◌≡◌}
use native.Mathlib.Omega.{arith}
use Rattle.plan.proofs.ValidLaws.{no_bases}
use Rattle.plan_check.specs.Found.{BasesFound}
use Rattle.plan_check.proofs.FoundLaws.{base_more}
use Rattle.plan_check.proofs.check_bases.Goals as goal

pub loop-i-init : goal.loop-i-init
loop-i-init c = no_bases

pub returns-then-b-lt2 : goal.returns-then-b-lt2
returns-then-b-lt2 c =
    let l = c.loop-i in
    rw c.report.ensures (BasesFound.outside l.i (omega arith) l.invariant (λ low high. omega arith), λ e. omega arith)

pub returns-then-b-gt256 : goal.returns-then-b-gt256
returns-then-b-gt256 c =
    let l = c.loop-i in
    rw c.report-then-b-gt256.ensures (BasesFound.outside l.i (omega arith) l.invariant (λ low high. omega arith), λ e. omega arith)

pub returns-in-Some : goal.returns-in-Some
returns-in-Some c =
    let l = c.loop-i in
    let s = c.in-Some in
    rw c.report-in-Some.ensures
    (BasesFound.shared l.i s.j (omega arith) l.invariant (omega arith) (omega arith) s.ensures.0 s.ensures.1, λ e. omega arith)

pub loop-i-preserved : goal.loop-i-preserved
loop-i-preserved c =
    let l = c.loop-i in
    base_more _ l.i (omega arith) l.invariant (omega arith) (omega arith) c.in_default.ensures.before

pub returns : goal.returns
returns c =
    let l = c.loop-i in
    let e : l.i ≡ c.args.n = omega arith in
    BasesFound.sound (rw e at l.invariant)
