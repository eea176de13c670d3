-- The m's so far, in at most five bytes each. Assumes nothing.
use mathlib.Core.Path.{◌≡◌}
use Prim.Native.Nat.{◌*◌}
use native.Mathlib.Omega.{arith}
use lib.ListN.{drop}
use Rattle.plan_text.proofs.WordLaws.{ms_none, next_m}
use Rattle.plan_text.proofs.put_ms.Goals as goal

pub loop-k-init : goal.loop-k-init
loop-k-init c =
    let a = c.args in
    (omega arith, ms_none a.out.now a.start (drop (12 * a.i) a.ms.now))

pub put_part-at-requires : goal.put_part-at-requires
put_part-at-requires c =
    omega (arith, c.requires.3 c.loop-k.k (omega arith), c.loop-k.invariant.1.size)

pub loop-k-preserved : goal.loop-k-preserved
loop-k-preserved c =
    let a = c.args in (
      omega (arith, c.put_part-at.ensures.1),
      next_m (omega arith) a.ms.now a.i c.loop-k.k c.mark_at-mark.result (omega arith) (omega arith) (omega arith) c.mark_at-mark.ensures c.loop-k.invariant.1 c.put_part-at.ensures.0,
    )

pub shape_of-out : goal.shape_of-out
shape_of-out c = c.loop-k.invariant.1.size

pub returns : goal.returns
returns c =
    let l = c.loop-k in
    let e : l.k ≡ c.args.d = omega arith in
    (rw e at l.invariant.1, omega arith)
