-- `sobol_marks::sobol_marks` meets its contract: every point is below 2^32, and else its parts follow one another. Assumes nothing.
use Prim.Native.Nat.{◌+◌}
use native.Mathlib.Omega.{arith}
use Rattle.sobol_blocks.specs.Filling.{sobol_from}
use Rattle.marks.proofs.MarkLaws.{marked_all}
use Rattle.sobol_marks.proofs.sobol_marks.Goals as goal

pub returns-then-limit-gt4294967295 : goal.returns-then-limit-gt4294967295
unfolding sobol_from
returns-then-limit-gt4294967295 c =
    let a = c.args in
    marked_all (sobol_from a.v.now a.n) a.limit 0 a.m a.l.now (λ i h q. omega (arith, c.requires.0.low (a.n + i)))
