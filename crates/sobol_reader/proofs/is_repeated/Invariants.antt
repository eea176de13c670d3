-- None of the first polynomials is p; where one is, it decides for all of them. Assumes nothing.
use Rattle.sobol_reader.proofs.AxisLaws.{RepeatedLoop}
use Rattle.sobol_reader.proofs.is_repeated.Given as goal

abbrev pub invariant-loop-q : goal.invariant-loop-q
invariant-loop-q l = RepeatedLoop l.p l.polynomials l.q-index
