-- The share is computed as it is defined. Assumes nothing.
use mathlib.Core.Path.{refl}
use Rattle.shares.specs.Rounding.{share_of}
use borrow.Author.Rules.{rules}
use Rattle.shares.proofs.share.Goals as goal

pub returns : goal.returns
unfolding share_of
returns c = refl
