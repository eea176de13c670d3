-- The loop's invariant: the or of the words so far is 0 exactly where they all are. Assumes nothing.
use native.Mathlib.Omega.{arith}
use Rattle.fitting.proofs.AnswerLaws.{zeros_none, zeros_more, zeros_end}
use Rattle.genuine.proofs.is_zero.Goals as goal

pub loop-i-init : goal.loop-i-init
loop-i-init c = zeros_none _ _

pub loop-i-preserved : goal.loop-i-preserved
loop-i-preserved c = zeros_more c.loop-i.invariant

pub returns : goal.returns
returns c = zeros_end c.loop-i.invariant (omega arith)
