-- `strip_count::put_images` meets its contract: the images of the first i axes are there. Assumes nothing.
use Rattle.strip_count.specs.Rows.{Filled}
use Rattle.strip_count.proofs.put_images.Given as goal

abbrev pub invariant-loop-i : goal.invariant-loop-i
invariant-loop-i l = Filled l.family l.bases l.order l.l l.i
