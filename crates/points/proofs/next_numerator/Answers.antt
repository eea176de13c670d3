-- `points::next_numerator` meets its contract: a Sobol axis steps over its own 32 direction numbers, and a Halton axis in its own base.
-- Assumes nothing.
use mathlib.Core.Path.{sym, ◌∙◌}
use Prim.Native.Nat.{◌+◌}
use native.Mathlib.Omega.{arith}
use borrow.Author.Rules.{rules}
use Rattle.points.proofs.ArrayLaws.{numerator_by_part, numerator_by_base}
use Rattle.points.proofs.next_numerator.Goals as goal

pub step-requires : goal.step-requires
step-requires c =
    let a = c.args in
    (search rules, omega arith, c.requires.2 ∙ sym (numerator_by_part a.family a.bases.now a.directions.now a.n a.i (omega arith)))

pub returns-then-family-eq2 : goal.returns-then-family-eq2
returns-then-family-eq2 c =
    let a = c.args in
    c.step.ensures ∙ numerator_by_part a.family a.bases.now a.directions.now (a.n + 1) a.i (omega arith)

pub step-requires-2 : goal.step-requires-2
step-requires-2 c =
    let a = c.args in
    let base = c.requires.0.base in (
      base.low (λ e. omega arith),
      base.high (λ e. omega arith),
      c.requires.2 ∙ sym (numerator_by_base a.family a.bases.now a.directions.now a.n a.i (λ e. omega arith)),
    )

pub returns : goal.returns
returns c =
    let a = c.args in
    c.step-2.ensures ∙ numerator_by_base a.family a.bases.now a.directions.now (a.n + 1) a.i (λ e. omega arith)
