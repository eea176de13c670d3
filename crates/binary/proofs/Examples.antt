-- Small polynomials, by the test and by the definition: x + 1, whose least e is 1, is primitive, and x^4 + x^3 + x^2 + x + 1 is not.
-- Assumes nothing.
use mathlib.Core.Path.{◌≡◌, refl, sym, ◌∙◌}
use mathlib.Core.Bool.{true, false, false≢true}
use Prim.Native.Nat.{ℕ, zero, suc, ◌≤◌, ◌<◌}
use native.Mathlib.Omega.{arith}
use lib.Dec.{lit<, lit≤}
use Rattle.binary.specs.Polynomial.{Degree, Divides, Primitive, times_x, only_last, is_primitive}
use Rattle.binary.specs.Power.{power_of_x}
use Rattle.binary.proofs.PolynomialLaws.{divides_of_one, one_of_divides, is_primitive_iff}

-- x + 1
test_3 : is_primitive 1 3 ≡ true
unfolding is_primitive only_last times_x
test_3 = refl

-- x^3 + x + 1
test_11 : is_primitive 3 11 ≡ true
unfolding is_primitive only_last times_x
test_11 = refl

-- x^12 + x^6 + x^4 + x + 1
test_4179 : is_primitive 12 4179 ≡ true
unfolding is_primitive only_last times_x
test_4179 = refl

-- x^2 + 1
test_5 : is_primitive 2 5 ≡ false
unfolding is_primitive only_last times_x
test_5 = refl

-- x^4 + x^3 + x^2 + x + 1
test_31 : is_primitive 4 31 ≡ false
unfolding is_primitive only_last times_x
test_31 = refl

-- ---- the same by the definition

degree_5 : Degree 2 5
degree_5 = record { low = lit≤ tt; high = lit< tt }

degree_31 : Degree 4 31
degree_31 = record { low = lit≤ tt; high = lit< tt }

primitive_3 : Primitive 1 3
primitive_3 = (is_primitive_iff 1 3 (lit≤ tt) (record { low = lit≤ tt; high = lit< tt })).0 test_3

primitive_11 : Primitive 3 11
primitive_11 = (is_primitive_iff 3 11 (lit≤ tt) (record { low = lit≤ tt; high = lit< tt })).0 test_11

not_primitive_5 : Primitive 2 5 → ⊥
not_primitive_5 w = false≢true (sym test_5 ∙ (is_primitive_iff 2 5 (lit≤ tt) degree_5).1 w)

not_primitive_31 : Primitive 4 31 → ⊥
not_primitive_31 w = false≢true (sym test_31 ∙ (is_primitive_iff 4 31 (lit≤ tt) degree_31).1 w)

-- the least e of x^4 + x^3 + x^2 + x + 1 is 5
order_31 : Divides 31 5 × ((e : ℕ) → 0 < e → Divides 31 e → 5 ≤ e)
unfolding power_of_x times_x
order_31 = (divides_of_one 4 31 (lit≤ tt) degree_31 5 refl, least)
  where
    least : (e : ℕ) → 0 < e → Divides 31 e → 5 ≤ e
    least zero h w = absurd (omega arith)
    least (suc zero) h w = absurd (let z : ◌≡◌ {A = ℕ} 2 1 = one_of_divides 4 31 (lit≤ tt) degree_31 1 w in omega arith)
    least (suc (suc zero)) h w = absurd (let z : ◌≡◌ {A = ℕ} 4 1 = one_of_divides 4 31 (lit≤ tt) degree_31 2 w in omega arith)
    least (suc (suc (suc zero))) h w = absurd (let z : ◌≡◌ {A = ℕ} 8 1 = one_of_divides 4 31 (lit≤ tt) degree_31 3 w in omega arith)
    least (suc (suc (suc (suc zero)))) h w = absurd (let z : ◌≡◌ {A = ℕ} 15 1 = one_of_divides 4 31 (lit≤ tt) degree_31 4 w in omega arith)
    least (suc (suc (suc (suc (suc e))))) h w = omega arith
