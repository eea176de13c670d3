-- How many numbers below a limit pass a test, and whether each does. Definitions only.
use Rattle.std.specs.Prelude.{Bool, true, false, ◌&&◌, ℕ, zero, suc, ◌+◌}

abbrev pub bit : Bool → ℕ
bit true = 1
bit false = 0

-- how many numbers below n pass the test
unfoldable pub count : (ℕ → Bool) → ℕ → ℕ
count p zero = zero
count p (suc n) = count p n + bit (p n)

-- each number below n passes the test
unfoldable pub each : (ℕ → Bool) → ℕ → Bool
each p zero = true
each p (suc n) = each p n && p n
