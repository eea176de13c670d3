-- The measure of both is the base, which falls at each call. Assumes nothing.
use Rattle.permutation.proofs.+image_even_image_odd.Given as goal

abbrev pub decreases-image_even : goal.decreases-image_even
decreases-image_even l = l.b

abbrev pub decreases-image_odd : goal.decreases-image_odd
decreases-image_odd l = l.b
