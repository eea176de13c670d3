-- `sobol::step` meets its contract: the trailing zeros of the complement are the place of the index's rightmost zero digit, below 32.
-- Assumes nothing.
use native.Mathlib.Omega.{arith}
use Rattle.sobol.proofs.SteppingLaws.{picked_lt, stepped_next}
use Rattle.sobol.proofs.step.Goals as goal

pub overflow_cast-c : goal.overflow_cast-c
overflow_cast-c c = omega (arith, picked_lt c.args.n c.requires.1)

pub offset_bounds-v-c : goal.offset_bounds-v-c
offset_bounds-v-c c = omega (arith, picked_lt c.args.n c.requires.1)

pub bounds-v-c : goal.bounds-v-c
bounds-v-c c = omega (arith, picked_lt c.args.n c.requires.1)

pub returns : goal.returns
returns c =
    stepped_next c.args.v.now c.args.n c.args.x c.requires.1 c.requires.2
