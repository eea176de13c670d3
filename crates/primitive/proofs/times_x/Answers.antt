-- `primitive::times_x` meets its contract: the code's test is the definition's. Assumes nothing.
use mathlib.Core.Path.{sym}
use native.Mathlib.Omega.{arith}
use Rattle.binary.proofs.PolynomialLaws.{times_x_less, times_x_more}
use Rattle.primitive.proofs.times_x.Goals as goal

pub returns-then-s-top : goal.returns-then-s-top
returns-then-s-top c = let a = c.args in sym (times_x_less a.top a.p a.r (omega (arith, c.if-s-top.true)))

pub returns-else-s-top : goal.returns-else-s-top
returns-else-s-top c = let a = c.args in sym (times_x_more a.top a.p a.r (omega (arith, c.if-s-top.false)))
