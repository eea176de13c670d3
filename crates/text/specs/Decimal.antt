-- Numbers as decimal digits, in bytes of ASCII. Definitions only.
use Rattle.std.specs.Prelude.{List, [], ◌∷◌, ℕ, zero, suc, ◌+◌, ◌/◌, ◌%◌, ◌^◌, max}
use Rattle.numbers.specs.Digits.{digit_count}

-- the last k decimal digits of n, highest first
unfoldable pub decimal_digits : ℕ → ℕ → List ℕ
decimal_digits zero n = []
decimal_digits (suc k) n = (48 + n / 10 ^ k % 10) ∷ decimal_digits k n

-- n in decimal, one digit at least
unfoldable pub decimal : ℕ → List ℕ
decimal n = decimal_digits (max 1 (digit_count 10 n)) n
