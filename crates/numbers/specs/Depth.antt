-- The depth of a base, and the denominator of an axis of that base. Definitions only.
use Rattle.std.specs.Prelude.{ℕ, ◌-◌, ◌^◌}
use Rattle.numbers.specs.Digits.{digit_count}

-- The depth of base b: as many digits as the last index has, so the least k with b ^ k at or above 2 ^ 32.
unfoldable pub depth : ℕ → ℕ
depth b = digit_count b (2 ^ 32 - 1)

unfoldable pub denominator : ℕ → ℕ
denominator b = b ^ depth b
