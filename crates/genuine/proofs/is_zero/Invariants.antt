-- The loop's invariant: the or of the words so far is 0 exactly where they all are. Assumes nothing.
use Rattle.fitting.proofs.AnswerLaws.{ZerosTo}
use Rattle.genuine.proofs.is_zero.Given as goal

abbrev pub invariant-loop-i : goal.invariant-loop-i
invariant-loop-i l = ZerosTo l.from l.words l.i l.x
