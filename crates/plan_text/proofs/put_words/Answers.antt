-- Only a valid plan is put. Assumes nothing.
use mathlib.Core.Path.{refl}
use native.Mathlib.Omega.{arith}
use Rattle.plan_check.proofs.FoundLaws.{found_valid}
use Rattle.plan_text.proofs.WordLaws.{nothing_put, words_put, long_enough}
use Rattle.plan_text.proofs.put_words.Goals as goal

pub put_plan-requires : goal.put_plan-requires
put_plan-requires c =
    let a = c.args.p in
    let v = (found_valid a.family a.axes a.bases.now a.polynomials.now a.ms.now (omega arith) c.in-Ok.ensures).0 refl in
    (omega arith, v.0, v.1)

pub returns-in-Ok : goal.returns-in-Ok
returns-in-Ok c =
    let a = c.args.p in
    record {
      words_put = words_put ((found_valid a.family a.axes a.bases.now a.polynomials.now a.ms.now (omega arith) c.in-Ok.ensures).0 refl) c.put_plan.ensures.0;
      upper_bound = long_enough _ _ (omega (arith, c.put_plan.ensures.0.size, c.put_plan.ensures.1));
    }

pub returns-in-Err : goal.returns-in-Err
returns-in-Err c =
    let a = c.args.p in
    let wrong = c.in-Err.ensures in
    record {
      words_put = nothing_put (λ v. wrong.1 ((found_valid a.family a.axes a.bases.now a.polynomials.now a.ms.now (omega arith) wrong.0).1 v));
      upper_bound = (omega arith, omega arith);
    }
