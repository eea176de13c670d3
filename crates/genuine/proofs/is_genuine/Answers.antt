-- The first part that fails decides; the last decides where the others hold. Assumes nothing.
use native.Mathlib.Omega.{arith}
use Rattle.fitting.specs.Fits.{FitPlan, FitRun, Sized}
use Rattle.fitting.proofs.AnswerLaws.{no, failed, rests}
use Rattle.fitting.proofs.FitLaws.{fit_arrays, fit_within, decided}
use Rattle.genuine.proofs.is_genuine.Goals as goal
use Rattle.genuine.proofs.is_genuine.Goals.{Start, Else-not-is_plan, Else-not-is_run}

-- the arrays' types have their lengths
sized : (c : Start) → Sized c.args.s.now
sized c = record { bases = omega arith; polynomials = omega arith; directions = omega arith; starts = omega arith; numerators = omega arith }

run : (c : Else-not-is_run) → FitRun c.args.s.now.family c.args.s.now.axes c.args.s.now.starts c.args.s.now.count c.args.s.now.taken
run c = c.is_run.ensures.0 c.if-not-is_run.false

held : (c : Else-not-is_plan) →
    FitPlan c.args.s.now.family c.args.s.now.axes c.args.s.now.bases c.args.s.now.polynomials c.args.s.now.directions
held c = c.is_plan.ensures.0 c.if-not-is_plan.false

pub returns-then-s-lt1 : goal.returns-then-s-lt1
returns-then-s-lt1 c = decided _ _ (no (λ f. omega (arith, f.few)))

pub returns-then-s-gt6 : goal.returns-then-s-gt6
returns-then-s-gt6 c = decided _ _ (no (λ f. omega (arith, f.few)))

pub returns-then-not-is_run : goal.returns-then-not-is_run
returns-then-not-is_run c =
    decided _ _ (failed c.is_run.ensures c.if-not-is_run.true (λ f. f.run))

pub returns-then-not-is_plan : goal.returns-then-not-is_plan
returns-then-not-is_plan c =
    decided _ _
    (failed c.is_plan.ensures c.if-not-is_plan.true (λ f. f.plan))

pub is_next-requires : goal.is_next-requires
is_next-requires c =
    let k = sized (goal.at.is_next-requires c).Start in (
      fit_arrays _ _ _ _ _ (omega arith, omega arith) k.bases k.polynomials k.directions (held (goal.at.is_next-requires c).Else-not-is_plan),
      fit_within _ _ _ _ _ (omega arith, omega arith) k.bases k.polynomials k.directions k.starts (held (goal.at.is_next-requires c).Else-not-is_plan) (run (goal.at.is_next-requires c).Else-not-is_run),
    )

pub returns : goal.returns
returns c =
    decided _ _
    (rests c.is_next.ensures
    (λ z. record {
      sized = sized (goal.at.returns c).Start;
      few = (omega arith, omega arith);
      run = run (goal.at.returns c).Else-not-is_run;
      plan = held (goal.at.returns c).Else-not-is_plan;
      next = z;
    })
    (λ f. f.next))
