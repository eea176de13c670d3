-- The loop's invariant: the bases so far fit. Assumes nothing.
use Rattle.fitting.specs.Fits.{FitBases}
use Rattle.genuine.proofs.are_bases.Given as goal

abbrev pub invariant-loop-i : goal.invariant-loop-i
invariant-loop-i l = FitBases l.bases l.i
