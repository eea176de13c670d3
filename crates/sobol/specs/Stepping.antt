-- The points of a Sobol axis, from the list of its direction numbers v_1, v_2 and so on: numerators over 2^32. Definitions only.
use Rattle.std.specs.Prelude.{ℕ, zero, suc, List, get_or}
use Rattle.std.specs.Int.Bits.{bit_xor}
use Rattle.binary.specs.Gray.{right_zero, gray}
use Rattle.binary.specs.Gf2.{combination}

-- The stepping rule: index 0 gives 0, and index n + 1 gives point n xor v_c, c the place (from 1) of the rightmost zero digit of n.
unfoldable pub stepped : List ℕ → ℕ → ℕ
stepped vs zero = zero
stepped vs (suc n) = bit_xor (stepped vs n) (get_or vs (right_zero n) 0)

-- the jump: the direction numbers that the digits of n xor (n shifted right by one) pick
unfoldable pub jumped : List ℕ → ℕ → ℕ
jumped vs n = combination vs (gray n)
