-- `images::plain_images` meets its contract: the first d entries are images. Assumes nothing.
use native.Mathlib.Omega.{arith}
use Rattle.numbers.proofs.ListedLaws.{begins_more}
use Rattle.permutation.specs.Families.{image_of}
use Rattle.images.proofs.plain_images.Goals as goal

pub loop-d-preserved : goal.loop-d-preserved
unfolding image_of
loop-d-preserved c =
    let l = c.loop-d in
    begins_more l.invariant (omega arith) (omega arith)
