-- Arithmetic over two elements: linear combinations of words, and the product of polynomials, which are numbers whose digit i is the coefficient
-- of x^i. A sum is exclusive or. Definitions only.
use Rattle.std.specs.Prelude.{ℕ, zero, suc, ◌*◌, ◌/◌, ◌%◌, List, [], ◌∷◌}
use Rattle.std.specs.Int.Bits.{bit_xor}

-- v where the digit is 1, and 0 where it is 0
abbrev pub times : ℕ → ℕ → ℕ
times zero v = zero
times (suc d) v = v

-- the linear combination of the words with the digits of g, the lowest digit for the first word
unfoldable pub combination : List ℕ → ℕ → ℕ
combination [] g = zero
combination (v ∷ vs) g = bit_xor (times (g % 2) v) (combination vs (g / 2))

-- The product of p and q, by the digits of q. The first number counts the digits still allowed.
unfoldable pub product_in : ℕ → ℕ → ℕ → ℕ
product_in zero p q = zero
product_in (suc f) p zero = zero
product_in (suc f) p (suc q) = bit_xor (times (suc q % 2) p) (product_in f p (suc q / 2) * 2)

-- q itself is digits enough
unfoldable pub product : ℕ → ℕ → ℕ
product p q = product_in q p q
