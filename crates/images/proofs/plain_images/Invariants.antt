-- `images::plain_images` meets its contract: the first d entries are images. Assumes nothing.
use Rattle.numbers.specs.Listed.{Begins}
use Rattle.permutation.specs.Families.{image_of}
use Rattle.images.proofs.plain_images.Given as goal

abbrev pub invariant-loop-d : goal.invariant-loop-d
invariant-loop-d l = Begins (image_of 0 l.b) l.d l.l
