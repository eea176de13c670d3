-- The measure is the base. Assumes nothing.
use Rattle.images.proofs.+faure_images.Given as goal

abbrev pub decreases-faure_images : goal.decreases-faure_images
decreases-faure_images l = l.b
