-- `state::make` meets its contract: the answer's arrays and its direction numbers are the plan's, and no point is next. Assumes nothing.
use mathlib.Core.Path.{refl}
use native.Mathlib.Omega.{arith}
use Rattle.plan.specs.Answer.{plan_answered}
use Rattle.points.specs.Run.{one_start}
use Rattle.points.proofs.PointLaws.{axis_count_lem}
use Rattle.points.proofs.RunLaws.{one_zeros}
use Rattle.state.proofs.StateLaws.{next_none, holds_made, accepted_holds, accepted_polynomials}
use Rattle.state.proofs.make.Goals as goal

pub returns : goal.returns
returns c =
    let a = c.args.a in
    let h = accepted_holds c.requires _ c.plan_directions-directions.ensures in
    let p = plan_answered a in
    let r = one_start p 0 0 in
    holds_made h a.polynomials _ 0 0 _ r (accepted_polynomials c.requires) (one_zeros p 0 0 (axis_count_lem p c.requires.valid).1 refl)
    (unfold one_start in refl) (next_none p r 0 (unfold one_start in omega arith))
