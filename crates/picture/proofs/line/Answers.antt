-- A line leaves at most 32 windows, and the buffers their lengths. Assumes nothing.
use native.Mathlib.Omega.{arith}
use Rattle.picture.proofs.line.Goals as goal

pub returns-then-l-gt1024 : goal.returns-then-l-gt1024
returns-then-l-gt1024 c = omega (arith, c.requires.0)

pub shape_of-chunk : goal.shape_of-chunk
shape_of-chunk c = c.chunk-1.given
