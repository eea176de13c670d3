-- The space, the numerator, the slash and the denominator are put one after another. Assumes nothing.
use Prim.Native.Nat.{◌≤◌}
use native.Mathlib.Omega.{arith}
use lib.ListN.{length}
use Rattle.walk_text.specs.Parts.{fraction}
use Rattle.text.proofs.PutLaws.{put_then}
use Rattle.walk_text.proofs.put_fraction.Goals as goal

-- ?? slice_aggregate_put : tie.Need-slice-aggregate-put
-- slice_aggregate_put c = search rules

-- ?? slice_aggregate_put_2 : tie.Need-slice-aggregate-put-2
-- slice_aggregate_put_2 c = search rules

pub returns : goal.returns
unfolding fraction
returns c =
    let a = c.args in
    let room : a.at ≤ length a.out.now = omega arith in
    (put_then room (put_then room (put_then room c.put-after_space.ensures c.put_decimal-after_numerator.ensures.0) c.put-after_slash.ensures) c.put_decimal.ensures.0, omega arith)
