-- A base's denominator is below 2^40. Assumes nothing.
use Rattle.std.proofs.Common.{arith}
use Rattle.numbers.proofs.DepthLaws.{denominator_lt}
use Rattle.svg.proofs.drawn.denominator.Goals as goal

pub returns : goal.returns
returns c = omega (arith, c.denominator.ensures, denominator_lt c.args.base (omega arith) (omega arith))
