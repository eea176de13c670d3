-- The reader's answer over the bytes that decide says which text is put. Assumes nothing.
use mathlib.Core.Path.{◌≡◌, sym, ap, ◌∙◌}
use native.Mathlib.Omega.{arith}
use lib.ListN.{take}
use lib.Seq.{length-take-le}
use Rattle.bits.specs.Stream.{AllBelow}
use Rattle.bits.proofs.StreamLaws.{below_of, below_take}
use Rattle.plan.specs.Reading.{read_plan}
use Rattle.plan.specs.Answer.{answer_of}
use Rattle.plan.proofs.AnswerLaws.{read_refused}
use Rattle.walk_text.specs.Text.{text_of}
use Rattle.walk_text.proofs.WalkLaws.{code_low, read_plan_is, answer_accepted, whole}
use Rattle.walk_text.proofs.walk.Goals as goal
use Rattle.walk_text.proofs.walk.Goals.{After-read_plan-a}

answer : (c : After-read_plan-a) → c.read_plan-a.result ≡ answer_of (read_plan (take 72 c.args.input.now))
answer c = c.read_plan-a.ensures ∙ ap (λ l. answer_of (read_plan l)) c.deciding-n.ensures.1

bytes : (c : After-read_plan-a) → AllBelow 256 (take 72 c.args.input.now)
bytes c =
    let input = c.args.input.now in
    below_take 256 72 input (below_of 256 input (λ i. omega (arith, c.shared_slice_known-1.given i)))

pub slice_bounds-read_plan-end : goal.slice_bounds-read_plan-end
slice_bounds-read_plan-end c = sym (length-take-le _ _ (omega arith))

-- ?? slice_aggregate_put_head : tie.Need-slice-aggregate-put-head
-- slice_aggregate_put_head c = search rules

pub put_head-requires : goal.put_head-requires
put_head-requires c =
    omega (arith, code_low _ _ (answer (goal.at.put_head-requires c).After-read_plan-a) (λ e. omega arith))

pub returns-then-a-ne0 : goal.returns-then-a-ne0
unfolding text_of
returns-then-a-ne0 c =
    let input = c.args.input.now in
    let w = whole input _ (read_refused (take 72 input) c.read_plan-a.result (answer (goal.at.returns-then-a-ne0 c).After-read_plan-a) (λ e. omega arith)) c.put_head.ensures.0 in
    record { value = w.0; upper_bound = w.1 }

pub put_accepted-requires : goal.put_accepted-requires
put_accepted-requires c =
    (answer_accepted _ _ (answer (goal.at.put_accepted-requires c).After-read_plan-a) (bytes (goal.at.put_accepted-requires c).After-read_plan-a) (omega arith), omega arith)

pub returns : goal.returns
returns c =
    let input = c.args.input.now in
    let w = whole input _ (read_plan_is (take 72 input) c.read_plan-a.result (answer (goal.at.returns c).After-read_plan-a) (bytes (goal.at.returns c).After-read_plan-a) (omega arith)) c.put_accepted.ensures in
    record { value = w.0; upper_bound = w.1 }
