-- `points::denominator` meets its contract: 2^32 on a Sobol axis, and that of the base on a Halton axis. Assumes nothing.
use mathlib.Core.Path.{◌∙◌}
use native.Mathlib.Omega.{arith}
use Rattle.points.proofs.ArrayLaws.{denominator_by_two, denominator_by_base}
use Rattle.points.proofs.denominator.Goals as goal

pub returns-then-family-eq2 : goal.returns-then-family-eq2
returns-then-family-eq2 c =
    let a = c.args in
    denominator_by_two a.family a.bases.now a.i (omega arith)

pub denominator-requires : goal.denominator-requires
denominator-requires c =
    (c.requires.low (λ e. omega arith), c.requires.high (λ e. omega arith))

pub returns : goal.returns
returns c =
    let a = c.args in
    c.denominator.ensures ∙ denominator_by_base a.family a.bases.now a.i (λ e. omega arith)
