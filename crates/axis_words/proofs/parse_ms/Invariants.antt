-- The parts so far are numbers, in their places. Assumes nothing.
use Rattle.axis_words.proofs.PartLaws.{MsSoFar}
use Rattle.axis_words.proofs.parse_ms.Given as goal

abbrev pub invariant-loop-k : goal.invariant-loop-k
invariant-loop-k l = MsSoFar l.text l.i l.initial.ms l.ms l.at l.k
