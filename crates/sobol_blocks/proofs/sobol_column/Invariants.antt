-- `sobol_blocks::sobol_column` meets its contract: the rows up to i are written, and the local number is that of the last one. Assumes nothing.
use mathlib.Core.Path.{◌≡◌}
use Prim.Native.Nat.{◌+◌, ◌-◌}
use Rattle.sobol.specs.Stepping.{stepped}
use Rattle.columns.specs.Rows.{Column}
use Rattle.sobol_blocks.specs.Filling.{sobol_from}
use Rattle.sobol_blocks.proofs.sobol_column.Given as goal

abbrev pub invariant-loop-i : goal.invariant-loop-i
invariant-loop-i l = (l.x ≡ stepped l.v (l.n + l.i - 1)) × Column (sobol_from l.v l.n) l.lo l.i l.s l.j l.fn.out l.out
