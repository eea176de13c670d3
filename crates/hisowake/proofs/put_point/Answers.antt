-- The answer's arrays and its direction numbers are the plan's, so the words put are the plan's point. Assumes nothing.
use mathlib.Core.Path.{◌≡◌, sym}
use native.Mathlib.Omega.{arith}
use borrow.Author.Rules.{rules}
use lib.ListN.{length, take}
use lib.Seq.{length-take-le}
use Rattle.plan.specs.Answer.{plan_answered}
use Rattle.points.proofs.RunLaws.{within_all}
use Rattle.state.proofs.StateLaws.{Holds, holds_arrays, accepted_holds, accepted_few}
use Rattle.hisowake.proofs.CallLaws.{point_put}
use Rattle.hisowake.proofs.put_point.Goals as goal
use Rattle.hisowake.proofs.put_point.Goals.{After-plan_directions-directions, After-point-x}

held : (c : After-plan_directions-directions)
    → let a = c.args.a in Holds (plan_answered a) a.family a.axes a.bases c.plan_directions-directions.result
held c = accepted_holds c.requires.0 _ c.plan_directions-directions.ensures

-- the front of the point has as many words as the plan has axes
front : (c : After-point-x) → let n = c.args.a.axes in length (take n c.point-x.result) ≡ n
front c =
    let six : length c.point-x.result ≡ 6 = search rules in
    length-take-le c.args.a.axes c.point-x.result (omega (arith, accepted_few c.requires.0))

pub invariant_of-p : goal.invariant_of-p
invariant_of-p c = record { fit = holds_arrays (held (goal.at.invariant_of-p c).After-plan_directions-directions) c.requires.0.valid }

pub point-x-requires : goal.point-x-requires
point-x-requires c =
    within_all 0 _ (omega arith)

pub slice_bounds-x-end : goal.slice_bounds-x-end
slice_bounds-x-end c =
    omega (arith, accepted_few c.requires.0)

pub slice_bounds-put_words-end : goal.slice_bounds-put_words-end
slice_bounds-put_words-end c = sym (front (goal.at.slice_bounds-put_words-end c).After-point-x)

pub put_words-requires : goal.put_words-requires
put_words-requires c = omega (arith, front (goal.at.put_words-requires c).After-point-x)

pub returns : goal.returns
returns c =
    point_put (held (goal.at.returns c).After-plan_directions-directions) c.requires.0.valid c.args.n c.args.out.now _ c.point-x.result c.point-x.ensures c.put_words.ensures
