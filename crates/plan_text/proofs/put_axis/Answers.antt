-- 0 alone, or the polynomial and its m's. Assumes nothing.
use Prim.Native.Nat.{◌≤◌}
use native.Mathlib.Omega.{arith}
use lib.ListN.{length}
use Rattle.fitting.proofs.AxisLaws.{degree_low}
use Rattle.text.proofs.PutLaws.{put_then}
use Rattle.plan_text.proofs.WordLaws.{plain_text, given_text}
use Rattle.plan_text.proofs.put_axis.Goals as goal

pub degree-d-requires : goal.degree-d-requires
degree-d-requires c = degree_low _ c.requires.2.high

pub returns-then-d-eq0 : goal.returns-then-d-eq0
returns-then-d-eq0 c =
    let a = c.args in
    (rw (← plain_text a.polynomials.now a.ms.now a.i (omega (arith, c.degree-d.ensures))) c.put_part.ensures.0, omega (arith, c.put_part.ensures.1))

pub put_part-next-requires : goal.put_part-next-requires
put_part-next-requires c = omega (arith, c.requires.2.high)

pub put_ms-requires : goal.put_ms-requires
put_ms-requires c = (
  omega arith,
  omega (arith, c.degree-d.ensures, degree_low _ c.requires.2.high),
  omega (arith, c.put_part-next.ensures.0.size, c.put_part-next.ensures.1),
  λ k h. c.requires.2.each k (omega (arith, c.degree-d.ensures)),
)

pub returns : goal.returns
returns c =
    let a = c.args in
    let room : a.at ≤ length a.out.now = omega arith in
    let e = given_text a.polynomials.now a.ms.now a.i c.degree-d.result c.degree-d.ensures (omega arith) (omega arith) (λ z. omega arith) in
    (rw (← e) (put_then room c.put_part-next.ensures.0 c.put_ms.ensures.0), omega (arith, c.put_part-next.ensures.1, c.put_ms.ensures.1))
