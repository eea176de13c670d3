-- The part of the list that is copied to is the block's own. Assumes nothing.
use native.Mathlib.Omega.{arith}
use Rattle.bits.proofs.OverwriteLaws.{over_part}
use Rattle.bits.proofs.store.Goals as goal

pub returns : goal.returns
returns c = over_part _ _ _ _ _ c.copy_from_slice.ensures.after (omega arith)
