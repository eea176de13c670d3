-- The loop's invariant: the axes so far fit. Assumes nothing.
use Rattle.fitting.specs.Fits.{FitAxes}
use Rattle.genuine.proofs.are_axes.Given as goal

abbrev pub invariant-loop-i : goal.invariant-loop-i
invariant-loop-i l = FitAxes l.polynomials l.directions l.i
