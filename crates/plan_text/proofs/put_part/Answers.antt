-- The mark, and then the number. Assumes nothing.
use Prim.Native.Nat.{◌≤◌}
use native.Mathlib.Omega.{arith}
use lib.ListN.{length}
use Rattle.text.proofs.PutLaws.{put_then}
use Rattle.plan_text.specs.Words.{part}
use Rattle.plan_text.proofs.WordLaws.{few_digits}
use Rattle.plan_text.proofs.put_part.Goals as goal

pub returns : goal.returns
unfolding part
returns c =
    let a = c.args in
    let room : a.at ≤ length a.out.now = omega arith in
    (put_then room c.put-next.ensures c.put_decimal.ensures.0, omega (arith, c.put_decimal.ensures.0.after, c.put-next.ensures.after, few_digits a.n (omega arith)))
