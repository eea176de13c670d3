-- After i turns the first i bits of the field are written over the stream. Assumes nothing.
use Rattle.bits.specs.Stream.{bits_of, to_bits}
use Rattle.bits.proofs.OverwriteLaws.{Copied}
use Rattle.bits.proofs.put.Given as goal

abbrev pub invariant-loop-i : goal.invariant-loop-i
invariant-loop-i l = Copied (bits_of l.initial.out) l.at (to_bits l.width l.v) l.i (bits_of l.out)
