-- The rightmost zero digit of a number in base 2, and the Gray code. Definitions only.
use Rattle.std.specs.Prelude.{ℕ, zero, suc, ◌/◌, ◌%◌}
use Rattle.std.specs.Int.Bits.{bit_xor}

-- one place further where the digit is 1, place 0 where it is 0
abbrev pub past : ℕ → ℕ → ℕ
past zero t = zero
past (suc d) t = suc t

-- The place, from 0, of the rightmost zero digit of n. The first number counts the digits still allowed.
unfoldable pub right_zero_in : ℕ → ℕ → ℕ
right_zero_in zero n = zero
right_zero_in (suc f) zero = zero
right_zero_in (suc f) (suc n) = past (suc n % 2) (right_zero_in f (suc n / 2))

-- n itself is digits enough
unfoldable pub right_zero : ℕ → ℕ
right_zero n = right_zero_in n n

-- n xor (n shifted right by one)
abbrev pub gray : ℕ → ℕ
gray n = bit_xor n (n / 2)
