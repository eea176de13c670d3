-- `binary::combine` meets its contract. The loop's invariant: x with what the digits left pick from the rest of the words is the whole. Assumes nothing.
use mathlib.Core.Path.{◌≡◌}
use lib.Bits.{bit_xor}
use lib.ListN.{drop}
use Rattle.binary.specs.Gf2.{combination}
use Rattle.binary.proofs.combine.Given as goal

abbrev pub invariant-loop-w : goal.invariant-loop-w
invariant-loop-w l = bit_xor l.x (combination (drop l.w-index l.words) l.digits) ≡ combination l.words l.g
