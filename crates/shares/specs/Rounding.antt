-- A window's share, what it lies from another number, and the limit of its error, in nine decimals. Definitions only.
use Rattle.std.specs.Prelude.{ℕ, ◌+◌, ◌*◌, ◌-◌, ◌/◌, ◌%◌, ◌^◌, ltb}
use Rattle.shares.specs.declared.NineDecimals.{NineDecimals}
use Rattle.shares.specs.declared.Difference.{Difference}

-- S / N in billionths, to the nearest, halves up
unfoldable pub share_of : ℕ → ℕ → ℕ
share_of inside n = (inside * 10 ^ 9 + n / 2) / n

-- bound / N in billionths, rounded up
unfoldable pub limit_of : ℕ → ℕ → ℕ
limit_of bound n = (bound * 10 ^ 9 + (n - 1)) / n

-- a number of billionths
abbrev pub billionths : ℕ → NineDecimals
billionths x = record { whole = x / 10 ^ 9; part = x % 10 ^ 9 }

-- x - y: its sign, and its size
abbrev pub difference_of : ℕ → ℕ → Difference
difference_of x y = record { is_below = ltb x y; size = (x - y) + (y - x) }
