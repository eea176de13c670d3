-- One case law a return: the reading's answer, then the refusal's number, say which. Assumes nothing.
use mathlib.Core.Path.{◌≡◌, sym, ap, ◌∙◌}
use native.Mathlib.Omega.{arith}
use Prim.Native.Nat.{ℕ}
use lib.ListN.{length}
use Rattle.bits.proofs.StreamLaws.{below_of}
use Rattle.plan.specs.Reading.{accepted, read_plan}
use Rattle.plan.specs.Answer.{plan_answered, Accepted}
use Rattle.plan.proofs.AnswerLaws.{read_refused}
use Rattle.points.specs.Point.{axis_count}
use Rattle.state.proofs.StateLaws.{accepted_few}
use Rattle.plan.specs.Order.{first_due}
use Rattle.c_refusals.specs.Refusals.{point_refusals}
use Rattle.c_refusals.proofs.RefusalLaws.{point_zero}
use Rattle.hisowake.proofs.CallLaws.{answer_accepted, accepted_axes, point_refused, point_turned, point_done}
use Rattle.hisowake.proofs.hisowake_point.Goals as goal
use Rattle.hisowake.proofs.hisowake_point.Goals.{After-point_refusal-code, Else-a-ne0, Else-code-ne0}

-- past the first test the plan is accepted
known : (c : Else-a-ne0)
    → (read_plan c.args.plan.now ≡ accepted (plan_answered c.read_plan-a.result)) × Accepted c.read_plan-a.result
known c =
    answer_accepted _ _ (below_of 256 _ (λ i. omega (arith, c.shared_slice_known-1.given i))) c.read_plan-a.ensures (omega arith)

-- the room is tested for as many axes as the plan has
tested : (c : After-point_refusal-code)
    → let a = c.args in
    c.point_refusal-code.result ≡ first_due (point_refusals a.index (axis_count (plan_answered c.read_plan-a.result)) (length a.out.now))
tested c = let known : (read_plan c.args.plan.now ≡ accepted (plan_answered c.read_plan-a.result)) × Accepted c.read_plan-a.result = answer_accepted _ _ (below_of 256 _ (λ i. omega (arith, c.shared_slice_known-1.given i))) c.read_plan-a.ensures (omega arith) in
    let a = c.args in
    c.point_refusal-code.ensures ∙ ap (λ (s : ℕ). first_due (point_refusals a.index s (length a.out.now))) (accepted_axes (known).1)

passed : (c : Else-code-ne0) → c.point_refusal-code.result ≡ 0
passed c = omega arith

pub read_plan-a-requires : goal.read_plan-a-requires
read_plan-a-requires c = tt

pub returns-then-a-ne0 : goal.returns-then-a-ne0
returns-then-a-ne0 c =
    let a = c.args in
    point_refused a.plan.now a.index a.out.now _ (read_refused _ _ c.read_plan-a.ensures (λ e. omega arith))

pub point_refusal-code-requires : goal.point_refusal-code-requires
point_refusal-code-requires c = omega (arith, accepted_few (known c).1)

pub returns-then-code-ne0 : goal.returns-then-code-ne0
returns-then-code-ne0 c =
    let a = c.args in
    point_turned a.plan.now a.index a.out.now _ (known (goal.at.returns-then-code-ne0 c).Else-a-ne0).0 c.point_refusal-code.result (tested (goal.at.returns-then-code-ne0 c).After-point_refusal-code) (λ e. omega arith)

pub put_point-requires : goal.put_point-requires
put_point-requires c =
    let a = c.args in
    let z = point_zero a.index c.read_plan-a.result.axes (length a.out.now) (sym c.point_refusal-code.ensures ∙ passed (goal.at.put_point-requires c).Else-code-ne0) in
    ((known (goal.at.put_point-requires c).Else-a-ne0).1, omega (arith, z.0), omega (arith, z.1))

pub returns : goal.returns
returns c =
    let a = c.args in
    let k = known (goal.at.returns c).Else-a-ne0 in
    point_done a.plan.now a.index a.out.now _ k.0 (sym (passed (goal.at.returns c).Else-code-ne0) ∙ tested (goal.at.returns c).After-point_refusal-code) c.put_point.ensures (omega arith) (accepted_axes k.1)
