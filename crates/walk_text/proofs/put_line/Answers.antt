-- The index, the fractions and the end of the line are put one after another. Assumes nothing.
use Prim.Native.Nat.{◌≤◌}
use native.Mathlib.Omega.{arith}
use lib.ListN.{length}
use Rattle.walk_text.specs.Parts.{line_at}
use Rattle.text.proofs.PutLaws.{put_then}
use Rattle.walk_text.proofs.put_line.Goals as goal

pub returns : goal.returns
unfolding line_at
returns c =
    let a = c.args in
    let room : a.at ≤ length a.out.now = omega arith in
    (put_then room (put_then room c.put_decimal-after_index.ensures.0 c.put_fractions-after_point.ensures.0) c.put.ensures, omega arith)
