-- Powers of x modulo a polynomial p of degree d, top being 2^d, and the exponents that decide whether p is primitive. Definitions only.
use Rattle.std.specs.Prelude.{◌≡◌, List, ℕ, zero, suc, ◌-◌, ◌*◌, ◌%◌, ◌^◌, ◌<◌, get_or}
use Rattle.binary.specs.Polynomial.{times_x}

-- x^e modulo p
unfoldable pub power_of_x : ℕ → ℕ → ℕ → ℕ
power_of_x top p zero = 1
power_of_x top p (suc e) = times_x top p (power_of_x top p e)

-- the words begin with the squares of 1, x, .. and x^(d - 1) modulo p
unfoldable pub Squares : ℕ → ℕ → List ℕ → Type 0
Squares d p words = (k : ℕ) → k < d → get_or words k 0 ≡ power_of_x (2 ^ d) p (k * 2)

-- Of the four numbers each is below 2^d - 1, and each divisor of 2^d - 1 below it divides one of them that is not 0.
pub record Quotients (d : ℕ) (qs : List ℕ) : Type 0 where
  pub below : (k : ℕ) → k < 4 → get_or qs k 0 < 2 ^ d - 1
  pub divided : (e : ℕ) → 0 < e → e < 2 ^ d - 1 → (2 ^ d - 1) % e ≡ 0 → (k : ℕ) × (k < 4) × (0 < get_or qs k 0) × (get_or qs k 0 % e ≡ 0)
