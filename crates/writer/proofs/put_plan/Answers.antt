-- The header is put, and after it the axes or the bases. Assumes nothing.
use native.Mathlib.Omega.{arith}
use lib.ListN.{take, length-take}
use Rattle.plan.proofs.SpellingLaws.{length_bases_bits}
use Rattle.axes_writer.proofs.PartLaws.{put_field}
use Rattle.writer.proofs.PlanLaws.{put_header, whole_sobol, whole_halton}
use Rattle.writer.proofs.put_plan.Goals as goal

pub returns-then-family-eq2 : goal.returns-then-family-eq2
returns-then-family-eq2 c =
    let a = c.args in
    let header = put_header a.family a.axes (put_field _ _ _ c.put.auto.out c.put.ensures (omega arith) (omega arith) (omega arith))
    (put_field _ _ _ c.put-2.auto.out c.put-2.ensures (omega arith) (omega arith) (omega arith)) in
    (whole_sobol a.family a.axes a.bases.now a.polynomials.now a.ms.now header (omega arith) c.put_axes.ensures.0, omega arith)

pub put_bases-requires : goal.put_bases-requires
put_bases-requires c =
    (omega arith, omega arith, omega arith, λ k h. c.requires.1.base k h (λ e. omega arith))

pub returns : goal.returns
returns c =
    let a = c.args in
    let header = put_header a.family a.axes (put_field _ _ _ c.put.auto.out c.put.ensures (omega arith) (omega arith) (omega arith))
    (put_field _ _ _ c.put-2.auto.out c.put-2.ensures (omega arith) (omega arith) (omega arith)) in
    let most = length_bases_bits (take a.axes a.bases.now) in (
      whole_halton a.family a.axes a.bases.now a.polynomials.now a.ms.now header (λ e. omega arith) (omega arith) c.put_bases.ensures,
      omega (arith, length-take a.axes a.bases.now),
    )
