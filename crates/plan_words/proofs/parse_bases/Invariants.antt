-- The words so far are bases. Assumes nothing.
use Rattle.plan_words.proofs.ParseLaws.{Place, BasesSoFar}
use Rattle.plan_words.proofs.parse_bases.Given as goal

abbrev pub invariant-loop-i : goal.invariant-loop-i
invariant-loop-i l = Place l.line l.from l.at l.i × BasesSoFar l.line l.from l.bases l.i
