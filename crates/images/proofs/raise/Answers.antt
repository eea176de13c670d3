-- `images::raise` meets its contract: one arm a side of the centre. Assumes nothing.
use mathlib.Core.Path.{sym}
use native.Mathlib.Omega.{arith}
use Rattle.permutation.proofs.FaureRules.{cond_low, cond_high}
use Rattle.images.proofs.raise.Goals as goal

pub returns-then-x-c : goal.returns-then-x-c
returns-then-x-c c = sym (cond_low c.args.c c.args.x _ _ (omega arith))

pub returns-else-x-c : goal.returns-else-x-c
returns-else-x-c c = sym (cond_high c.args.c c.args.x _ _ (omega arith))
