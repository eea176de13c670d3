-- `permutation::image_power` meets its contract: each turn takes the lowest binary digit of what is left. Assumes nothing.
use Rattle.permutation.proofs.ReversalLaws.{Reversing}
use Rattle.permutation.proofs.image_power.Given as goal

abbrev pub invariant-loop-h : goal.invariant-loop-h
invariant-loop-h l = Reversing l.b l.k l.h l.d l.r

abbrev pub decreases-loop-h : goal.decreases-loop-h
decreases-loop-h l = l.h
