-- `permutation::kocis_image` meets its contract: each turn takes the next binary digit of the image. Assumes nothing.
use Rattle.permutation.proofs.DescentLaws.{Descent}
use Rattle.permutation.proofs.kocis_image.Given as goal

abbrev pub invariant-loop-h : goal.invariant-loop-h
invariant-loop-h l = Descent l.b l.k l.h l.d l.r l.p

abbrev pub decreases-loop-h : goal.decreases-loop-h
decreases-loop-h l = l.h
