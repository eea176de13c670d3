-- One case law a return: the reading's answer, then the refusal's number, say which. Assumes nothing.
use mathlib.Core.Path.{◌≡◌, sym, ap, ◌∙◌}
use native.Mathlib.Omega.{arith}
use mathlib.Core.Bool.{Bool}
use lib.ListN.{length}
use Rattle.bits.proofs.StreamLaws.{below_of}
use Rattle.plan.specs.Reading.{accepted, read_plan}
use Rattle.plan.specs.Answer.{plan_answered, Accepted}
use Rattle.plan.proofs.AnswerLaws.{read_refused}
use Rattle.state.proofs.StateLaws.{accepted_few}
use Rattle.plan.specs.Order.{first_due}
use Rattle.c_refusals.specs.Refusals.{count_refusals}
use Rattle.c_refusals.proofs.RefusalLaws.{count_zero}
use Rattle.hisowake.specs.Calls.{is_window_bytes, count_order}
use Rattle.hisowake.proofs.CallLaws.{answer_accepted, accepted_axes}
use Rattle.hisowake.proofs.CountLaws.{count_refused, count_turned, count_done}
use Rattle.hisowake.proofs.hisowake_window_count.Goals as goal
use Rattle.hisowake.proofs.hisowake_window_count.Goals.{After-count_refusal-code, Else-a-ne0, Else-code-ne0}

-- past the first test the plan is accepted
known : (c : Else-a-ne0)
    → (read_plan c.args.plan.now ≡ accepted (plan_answered c.read_plan-a.result)) × Accepted c.read_plan-a.result
known c =
    answer_accepted _ _ (below_of 256 _ (λ i. omega (arith, c.shared_slice_known-1.given i))) c.read_plan-a.ensures (omega arith)

-- the window is tested for as many axes as the plan has
tested : (c : After-count_refusal-code)
    → let a = c.args in
    c.count_refusal-code.result ≡ first_due (count_order (plan_answered c.read_plan-a.result) a.start a.count a.window.now a.out.now)
tested c = let known : (read_plan c.args.plan.now ≡ accepted (plan_answered c.read_plan-a.result)) × Accepted c.read_plan-a.result = answer_accepted _ _ (below_of 256 _ (λ i. omega (arith, c.shared_slice_known-1.given i))) c.read_plan-a.ensures (omega arith) in
    let a = c.args in
    c.count_refusal-code.ensures
    ∙ ap (λ (v : Bool). first_due (count_refusals a.start a.count v (length a.out.now))) (c.is_window_bytes-w.ensures ∙ ap (is_window_bytes a.window.now) (accepted_axes (known).1))

passed : (c : Else-code-ne0) → c.count_refusal-code.result ≡ 0
passed c = omega arith

pub returns-then-a-ne0 : goal.returns-then-a-ne0
returns-then-a-ne0 c =
    let a = c.args in
    count_refused a.plan.now a.start a.count a.window.now a.out.now _ (read_refused _ _ c.read_plan-a.ensures (λ e. omega arith))

pub is_window_bytes-w-requires : goal.is_window_bytes-w-requires
is_window_bytes-w-requires c = omega (arith, accepted_few (known c).1)

pub returns-then-code-ne0 : goal.returns-then-code-ne0
returns-then-code-ne0 c =
    let a = c.args in
    count_turned a.plan.now a.start a.count a.window.now a.out.now _ (known (goal.at.returns-then-code-ne0 c).Else-a-ne0).0 c.count_refusal-code.result (tested (goal.at.returns-then-code-ne0 c).After-count_refusal-code) (λ e. omega arith)

pub put_count-requires : goal.put_count-requires
put_count-requires c =
    let z = count_zero _ _ _ _ (sym c.count_refusal-code.ensures ∙ passed (goal.at.put_count-requires c).Else-code-ne0) in
    ((known (goal.at.put_count-requires c).Else-a-ne0).1, z.0, sym c.is_window_bytes-w.ensures ∙ z.1, z.2)

pub returns : goal.returns
returns c =
    let a = c.args in
    count_done a.plan.now a.start a.count a.window.now a.out.now _ (known (goal.at.returns c).Else-a-ne0).0 (sym (passed (goal.at.returns c).Else-code-ne0) ∙ tested (goal.at.returns c).After-count_refusal-code) c.put_count.ensures
