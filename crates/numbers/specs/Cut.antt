-- A fraction against a cut. Definitions only.
use Rattle.std.specs.Prelude.{Bool, ℕ, ◌*◌, ltb}

-- The fraction x / d lies below the cut u / q: numerator × q is less than u × denominator. A fraction on its cut does not.
unfoldable pub below_cut : ℕ → ℕ → ℕ → ℕ → Bool
below_cut x d u q = ltb (x * q) (u * d)
