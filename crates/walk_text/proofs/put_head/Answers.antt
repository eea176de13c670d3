-- The word, the number and the end of the line are put one after another. Assumes nothing.
use Prim.Native.Nat.{◌≤◌}
use native.Mathlib.Omega.{arith}
use lib.ListN.{length}
use Rattle.text.proofs.PutLaws.{put_then}
use Rattle.walk_text.proofs.put_head.Goals as goal

-- ?? slice_aggregate_put : tie.Need-slice-aggregate-put
-- slice_aggregate_put c = search rules

pub returns : goal.returns
returns c =
    let a = c.args in
    let room : 0 ≤ length a.out.now = omega arith in
    (put_then room (put_then room c.put-after_word.ensures c.put_decimal-after_number.ensures.0) c.put.ensures, omega arith)
