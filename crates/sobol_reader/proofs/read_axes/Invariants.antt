-- The loop has read and stored the first i axes, and the rest of the reading decides. Assumes nothing.
use Rattle.sobol_reader.proofs.AxesLaws.{AxesLoop}
use Rattle.sobol_reader.proofs.read_axes.Given as goal

abbrev pub invariant-loop-i : goal.invariant-loop-i
invariant-loop-i l = AxesLoop l.bytes l.axes l.polynomials l.ms l.at l.i
