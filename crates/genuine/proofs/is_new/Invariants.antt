-- The loop's invariant: the polynomial stands at none of the places so far. Assumes nothing.
use Rattle.fitting.specs.Fits.{NewTo}
use Rattle.genuine.proofs.is_new.Given as goal

abbrev pub invariant-loop-j : goal.invariant-loop-j
invariant-loop-j l = NewTo l.polynomials l.n l.j
