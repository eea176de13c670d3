-- `images::odd_images` meets its contract: as an even base goes, each image raised, and the centre last. Assumes nothing.
use Prim.Native.Nat.{◌+◌, ◌/◌}
use Rattle.permutation.specs.Faure.{faure}
use Rattle.images.proofs.ImageLaws.{Halves}
use Rattle.images.proofs.odd_images.Given as goal

abbrev pub invariant-loop-k : goal.invariant-loop-k
invariant-loop-k l = Halves (faure (l.b / 2)) (faure l.b) l.c (l.c + 1) l.k l.l
