-- A shift brings the bit to the lowest place, and the mask 1 leaves it alone. Assumes nothing.
use mathlib.Core.Path.{ap₂}
use Prim.Native.Nat.{ℕ, ◌/◌, ◌%◌, ◌^◌}
use native.Mathlib.Omega.{arith}
use Rattle.bits.proofs.ByteLaws.{lowest_bit}
use Rattle.bits.proofs.bit.Goals as goal

pub returns : goal.returns
returns c = rw lowest_bit (ap₂ (λ (b k : ℕ). b / 2 ^ k % 2) c.wide-b.ensures (omega arith))
