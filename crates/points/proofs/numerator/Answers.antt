-- `points::numerator` meets its contract: a Sobol axis jumps over its own 32 direction numbers, and a Halton axis in its own base.
-- Assumes nothing.
use mathlib.Core.Path.{◌∙◌}
use native.Mathlib.Omega.{arith}
use borrow.Author.Rules.{rules}
use Rattle.halton.proofs.ImageLaws.{numerator_by_family}
use Rattle.points.proofs.ArrayLaws.{numerator_by_part, numerator_by_base}
use Rattle.points.proofs.numerator.Goals as goal

pub returns-then-family-eq2 : goal.returns-then-family-eq2
returns-then-family-eq2 c =
    let a = c.args in
    c.jump.ensures ∙ numerator_by_part a.family a.bases.now a.directions.now a.n a.i (omega arith)

-- slice_aggregate_jump c = search rules

pub jump-x-requires : goal.jump-x-requires
jump-x-requires c =
    let low = c.requires.0.base.low (λ e. omega arith) in
    (low, c.requires.0.base.high (λ e. omega arith), omega arith, search rules)

pub returns : goal.returns
returns c =
    let a = c.args in
    let low = c.requires.0.base.low (λ e. omega arith) in
    c.jump-x.ensures ∙ numerator_by_family _ _ (omega arith) _ ∙ numerator_by_base a.family a.bases.now a.directions.now a.n a.i (λ e. omega arith)
