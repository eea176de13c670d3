-- Two remarks of 01 beside the table: base 2 never reaches 1/3, and x^4 + x^3 + x^2 + x + 1 has no factor. Assumes nothing.
use mathlib.Core.Path.{◌≡◌, refl}
use Prim.Native.Nat.{ℕ, ◌*◌, ◌/◌, ◌%◌}
use native.Mathlib.Omega.{arith}
use lib.Dec.{eqb}
use Rattle.numbers.specs.Count.{count}
use Rattle.numbers.specs.Digits.{digit_count_in, digit_count}
use Rattle.numbers.specs.Depth.{depth, denominator}
use Rattle.binary.specs.Gf2.{product_in, product}
use Rattle.halton.specs.Axis.{numerator}

-- over any map of the digits, at any index
pub third_not_reached : (σ : ℕ → ℕ) (n : ℕ) → numerator σ 2 n * 3 ≡ denominator 2 → ⊥
unfolding digit_count_in digit_count depth denominator
third_not_reached σ n e = omega (arith, e, two)
  where
    two : denominator 2 ≡ 4294967296
    two = refl

-- of the numbers below 16, which are the polynomials of degree 3 at most, no two have the product 31
pub no_factor : count (λ i. eqb (product (i / 16) (i % 16)) 31) 256 ≡ 0
unfolding count product_in product
no_factor = refl
