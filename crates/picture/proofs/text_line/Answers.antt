-- A line leaves at most 32 windows. Assumes nothing.
use native.Mathlib.Omega.{arith}
use Rattle.picture.proofs.text_line.Goals as goal

pub returns-then-eq-5 : goal.returns-then-eq-5
returns-then-eq-5 c = omega (arith, c.requires.0)

pub returns : goal.returns
returns c = omega (arith, c.requires.0)
