-- The digits of a number in base b, how many there are, and the numerator of its radical inverse. Definitions only.
use Rattle.std.specs.Prelude.{ℕ, zero, suc, ◌+◌, ◌-◌, ◌*◌, ◌/◌, ◌%◌, ◌^◌}

-- digit j of n in base b, the lowest being digit 0 (the papers' a_j)
unfoldable pub digit : ℕ → ℕ → ℕ → ℕ
digit b n j = n / b ^ j % b

-- The digit count: the least K with b ^ K above n, which is none for 0. The first number counts the digits still allowed.
unfoldable pub digit_count_in : ℕ → ℕ → ℕ → ℕ
digit_count_in zero b n = 0
digit_count_in (suc f) b zero = 0
digit_count_in (suc f) b (suc n) = suc (digit_count_in f b (suc n / b))

-- n itself is digits enough
unfoldable pub digit_count : ℕ → ℕ → ℕ
digit_count b n = digit_count_in n b n

-- f 0 + f 1 + .. + f (k - 1)
unfoldable pub sum : (ℕ → ℕ) → ℕ → ℕ
sum f zero = 0
sum f (suc k) = sum f k + f k

-- f 0 × f 1 × .. × f (k - 1)
unfoldable pub product_to : (ℕ → ℕ) → ℕ → ℕ
product_to f zero = 1
product_to f (suc k) = product_to f k * f k

-- what digit j adds to a numerator of k digits, each digit replaced by its image under σ
unfoldable pub term : (ℕ → ℕ) → ℕ → ℕ → ℕ → ℕ → ℕ
term σ b k n j = σ (digit b n j) * b ^ (k - 1 - j)

-- the numerator of index n at k digits: the sum of σ(a_j) × b^(k-1-j) for j from 0 to k - 1
unfoldable pub numerator_to : (ℕ → ℕ) → ℕ → ℕ → ℕ → ℕ
numerator_to σ b k n = sum (term σ b k n) k
