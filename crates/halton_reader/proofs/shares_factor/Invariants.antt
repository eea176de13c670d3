-- The bases from place j on decide for all of them. Assumes nothing.
use Rattle.halton_reader.proofs.BasesLaws.{SharesLoop}
use Rattle.halton_reader.proofs.shares_factor.Given as goal

abbrev pub invariant-loop-base : goal.invariant-loop-base
invariant-loop-base l = SharesLoop l.b l.base-items l.base-index
