-- The part of the buffer that is copied to has the word's bytes. Assumes nothing.
use mathlib.Core.Path.{◌∙◌}
use native.Mathlib.Omega.{arith}
use Rattle.bits.proofs.OverwriteLaws.{over_part}
use Rattle.big_endian.proofs.ByteLaws.{length_bytes, bytes_by}
use Rattle.big_endian.proofs.put_word.Goals as goal

pub returns : goal.returns
returns c =
    let x = c.args.x in
    over_part _ _ _ _ _ (c.copy_from_slice.ensures.after ∙ c.to_be_bytes.ensures ∙ bytes_by 8 x) (omega (arith, length_bytes 8 x))
