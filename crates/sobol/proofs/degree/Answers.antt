-- The degree is the digit count less one, and 0 for no digit. Assumes nothing.
use Rattle.std.proofs.Common.{arith}
use Rattle.binary.specs.Polynomial.{degree_of}
use Rattle.sobol.proofs.degree.Goals as goal

pub returns-then-k-eq0 : goal.returns-then-k-eq0
unfolding degree_of
returns-then-k-eq0 c = omega arith

pub returns-else-k-eq0 : goal.returns-else-k-eq0
unfolding degree_of
returns-else-k-eq0 c = omega arith
