-- The measure is the base. Assumes nothing.
use Rattle.images.proofs.+kocis_images.Given as goal

abbrev pub decreases-kocis_images : goal.decreases-kocis_images
decreases-kocis_images l = l.b
