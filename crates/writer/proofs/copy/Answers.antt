-- The part of the buffer that is copied to is the bytes' own. Assumes nothing.
use native.Mathlib.Omega.{arith}
use Rattle.bits.proofs.StreamLaws.{below_of}
use Rattle.bits.proofs.OverwriteLaws.{over_part}
use Rattle.writer.proofs.copy.Goals as goal

pub returns : goal.returns
returns c =
    let part = over_part _ _ _ _ _ c.copy_from_slice.ensures.after (omega arith) in
    (part, below_of 256 c.args.bytes.now (λ i. omega (arith, c.type_inv.bytes i)))
