-- The permutation of Kocis and Whiten of the digits 0 to b - 1, as 02's K5 says it after source document 001, for every base. Definitions only.
use Rattle.std.specs.Prelude.{cond, List, [], ◌∷◌, ℕ, ◌-◌, ◌^◌, ltb, get_or}
use Rattle.numbers.specs.Digits.{digit_count, numerator_to}
use Rattle.numbers.specs.Listed.{listed}

-- the base-2 van der Corput number of i, times 2^d: the d lowest binary digits of i in reverse
unfoldable pub corput : ℕ → ℕ → ℕ
corput d i = numerator_to (λ a. a) 2 d i

-- a list less its numbers at or above b
unfoldable pub less_from : ℕ → List ℕ → List ℕ
less_from b [] = []
less_from b (x ∷ l) = cond (ltb x b) (x ∷ less_from b l) (less_from b l)

-- the base-2 van der Corput numbers of 0 to 2^d - 1 times 2^d, less those at or above b
unfoldable pub sieve : ℕ → ℕ → List ℕ
sieve d b = less_from b (listed (corput d) (2 ^ d))

-- the least d so that 2^d is at least b
unfoldable pub bits_for : ℕ → ℕ
bits_for b = digit_count 2 (b - 1)

-- The image of the digit k in base b is entry k of that list.
unfoldable pub kocis : ℕ → ℕ → ℕ
kocis b k = get_or (sieve (bits_for b) b) k 0
