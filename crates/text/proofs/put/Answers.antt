-- The part of the buffer that is copied to is the text's own. Assumes nothing.
use native.Mathlib.Omega.{arith}
use Rattle.text.proofs.PutLaws.{put_part}
use Rattle.text.proofs.put.Goals as goal

pub returns : goal.returns
returns c = put_part _ _ _ _ _ c.copy_from_slice.ensures.after (omega arith) (omega arith)
