-- The greatest common divisor by Euclid's rule, coprime numbers, and inverses modulo a number. Definitions only.
use Rattle.std.specs.Prelude.{◌≡◌, ℕ, zero, suc, ◌*◌, ◌%◌}
use Rattle.std.specs.Int.{◌∣◌}

-- Euclid's rule: gcd(a, 0) = a, and gcd(a, b) = gcd(b, a mod b). The first number counts the steps that are left.
unfoldable pub gcd_in : ℕ → ℕ → ℕ → ℕ
gcd_in zero a b = a
gcd_in (suc f) a zero = a
gcd_in (suc f) a (suc b) = gcd_in f (suc b) (a % suc b)

-- the second number falls at each step, so it is steps enough
unfoldable pub gcd : ℕ → ℕ → ℕ
gcd a b = gcd_in b a b

-- no number but 1 divides both
abbrev pub Coprime : ℕ → ℕ → Type 0
Coprime a b = (d : ℕ) → d ∣ a → d ∣ b → d ≡ 1

-- m has an inverse modulo b
pub record Invertible (m b : ℕ) : Type 0 where
  pub inverse : ℕ
  pub undoes : m * inverse % b ≡ 1 % b
