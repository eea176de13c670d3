-- Powers of x at several exponents, side by side. Definitions only.
use Rattle.std.specs.Prelude.{List, ℕ, ◌/◌, ◌^◌, get_or}
use Rattle.binary.specs.Power.{power_of_x}

-- x to exponent k, modulo p of degree d
unfoldable pub power_at : ℕ → ℕ → List ℕ → ℕ → ℕ
power_at d p exponents k = power_of_x (2 ^ d) p (get_or exponents k 0)

-- x to the digits from `place` on of exponent k
unfoldable pub power_from : ℕ → ℕ → List ℕ → ℕ → ℕ → ℕ
power_from d p exponents place k = power_of_x (2 ^ d) p (get_or exponents k 0 / 2 ^ place)
