-- The family's word, and then the axes. Assumes nothing.
use mathlib.Core.Path.{◌≡◌}
use Prim.Native.Nat.{◌≤◌}
use native.Mathlib.Omega.{arith}
use lib.ListN.{length}
use Rattle.text.proofs.PutLaws.{put_then}
use Rattle.plan_check.proofs.FoundLaws.{valid_kind}
use Rattle.plan_text.proofs.WordLaws.{base_small, axis_good, halton_text, sobol_text}
use Rattle.plan_text.proofs.put_plan.Goals as goal

pub put_family-at-requires : goal.put_family-at-requires
put_family-at-requires c =
    let a = c.args.p in
    ((valid_kind a.family a.axes a.bases.now a.polynomials.now a.ms.now c.requires.2).0, omega arith)

pub put_axes-requires : goal.put_axes-requires
put_axes-requires c =
    let a = c.args.p in
    let e : a.family ≡ 2 = omega arith in
    (omega arith, omega (arith, c.put_family-at.ensures.0.size, c.put_family-at.ensures.1), axis_good a.family a.axes a.bases.now a.polynomials.now a.ms.now (omega arith) c.requires.1 c.requires.2 e)

pub returns-then-p-eq2 : goal.returns-then-p-eq2
returns-then-p-eq2 c =
    let a = c.args.p in
    let e : a.family ≡ 2 = omega (arith, c.if-p-eq2.true) in
    let room : 0 ≤ length c.args.out.now = omega arith in
    (rw (← sobol_text a.family a.axes a.bases.now a.polynomials.now a.ms.now (omega arith) c.requires.1 c.requires.2 e) (put_then room c.put_family-at.ensures.0 c.put_axes.ensures.0), omega (arith, c.put_axes.ensures.1, c.put_family-at.ensures.1))

pub put_bases-requires : goal.put_bases-requires
put_bases-requires c =
    let a = c.args.p in
    let n : a.family ≡ 2 → ⊥ = λ e. omega arith in
    (omega arith, omega arith, omega (arith, c.put_family-at.ensures.0.size, c.put_family-at.ensures.1), base_small a.family a.axes a.bases.now a.polynomials.now a.ms.now (omega arith) c.requires.1 c.requires.2 n)

pub returns : goal.returns
returns c =
    let a = c.args.p in
    let n : a.family ≡ 2 → ⊥ = λ e. omega (arith, c.if-p-eq2.false) in
    let room : 0 ≤ length c.args.out.now = omega arith in
    (rw (← halton_text a.family a.axes a.bases.now a.polynomials.now a.ms.now (omega arith) c.requires.1 c.requires.2 n) (put_then room c.put_family-at.ensures.0 c.put_bases.ensures.0), omega (arith, c.put_bases.ensures.1, c.put_family-at.ensures.1))
