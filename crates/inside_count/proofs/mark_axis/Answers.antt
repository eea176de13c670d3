-- `inside_count::mark_axis` meets its contract: a Sobol axis goes over its own 32 direction numbers, and a Halton axis in its own base.
-- Assumes nothing.
use Prim.Native.Nat.{◌+◌}
use native.Mathlib.Omega.{arith}
use borrow.Author.Rules.{rules}
use Rattle.halton_blocks.specs.Filling.{halton_from}
use Rattle.sobol_blocks.specs.Filling.{sobol_from}
use Rattle.marks.proofs.MarkLaws.{marked_as}
use Rattle.points.specs.Arrays.{numerator_from}
use Rattle.points.proofs.ArrayLaws.{axis_at_lem, numerator_by_part, numerator_by_base}
use Rattle.inside_count.proofs.FlagLaws.{directions_of}
use Rattle.inside_count.proofs.mark_axis.Goals as goal

pub sobol_marks-requires : goal.sobol_marks-requires
sobol_marks-requires c =
    (directions_of (axis_at_lem c.args.p.fit c.args.i (omega arith)) (omega arith) (search rules), omega arith, omega arith)

pub returns-then-p-eq2 : goal.returns-then-p-eq2
unfolding numerator_from sobol_from
returns-then-p-eq2 c =
    let a = c.args in
    marked_as c.sobol_marks.ensures (numerator_from a.p.family a.p.bases.now a.p.directions.now a.n a.i)
    (λ k h l. numerator_by_part a.p.family a.p.bases.now a.p.directions.now (a.n + k) a.i (omega arith))

pub halton_marks-requires : goal.halton_marks-requires
halton_marks-requires c =
    let base = (axis_at_lem c.args.p.fit c.args.i (omega arith)).base in
    omega (arith, base.low (λ e. omega arith), base.high (λ e. omega arith))

pub returns : goal.returns
unfolding numerator_from halton_from
returns c =
    let a = c.args in
    marked_as c.halton_marks.ensures (numerator_from a.p.family a.p.bases.now a.p.directions.now a.n a.i)
    (λ k h l. numerator_by_base a.p.family a.p.bases.now a.p.directions.now (a.n + k) a.i (λ e. omega arith))
