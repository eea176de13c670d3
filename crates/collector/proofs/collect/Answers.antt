-- A step that answers 0 goes on from what it left; any other number ends the loop. Assumes nothing.
use Rattle.std.proofs.Common.{◌∙◌}
use Rattle.collector.proofs.LoopLaws.{next, stop}
use Rattle.collector.proofs.collect.Goals as goal

pub returns-then-code-ne0 : goal.returns-then-code-ne0
returns-then-code-ne0 c = let r = c.step_in_place-code in
    stop c.loop-code.s c.loop-code.point r.result r.new.s r.new.out r.ensures c.if-code-ne0.true ∙ c.loop-code.invariant

pub loop-code-smaller : goal.loop-code-smaller
loop-code-smaller c = let r = c.step_in_place-code in
    (next c.loop-code.s c.loop-code.point r.result r.new.s r.new.out r.ensures c.if-code-ne0.false).1

pub loop-code-preserved : goal.loop-code-preserved
loop-code-preserved c = let r = c.step_in_place-code in
    (next c.loop-code.s c.loop-code.point r.result r.new.s r.new.out r.ensures c.if-code-ne0.false).0 ∙ c.loop-code.invariant
