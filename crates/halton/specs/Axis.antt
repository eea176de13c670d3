-- The numerators of a Halton axis, over any map of the digits. Definitions only.
use Rattle.std.specs.Prelude.{ℕ}
use Rattle.numbers.specs.Digits.{numerator_to}
use Rattle.numbers.specs.Depth.{depth}

-- the numerator of index n in base b, to the depth of b, each digit replaced by its image under σ, the leading zeros too
unfoldable pub numerator : (ℕ → ℕ) → ℕ → ℕ → ℕ
numerator σ b n = numerator_to σ b (depth b) n
