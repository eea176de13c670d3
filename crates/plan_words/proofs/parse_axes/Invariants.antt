-- The words so far are axes. Assumes nothing.
use Rattle.plan_words.proofs.ParseLaws.{Place, AxesSoFar}
use Rattle.plan_words.proofs.parse_axes.Given as goal

abbrev pub invariant-loop-i : goal.invariant-loop-i
invariant-loop-i l = Place l.line l.from l.at l.i × AxesSoFar l.line l.from l.polynomials l.ms l.i
