-- Primitive polynomials over two elements: the definition of 01-scope.md, and a test that computes it. Definitions only.
-- The polynomial x^d + a_1 x^(d-1) + .. + a_(d-1) x + 1 is the number 2^d + a_1 2^(d-1) + .. + a_(d-1) 2 + 1.
use Rattle.std.specs.Prelude.{◌≡◌, Bool, true, false, cond, ℕ, zero, suc, ◌-◌, ◌*◌, ◌^◌, ◌≤◌, ◌<◌, ltb, eqb}
use Rattle.std.specs.Int.Bits.{bit_xor}
use Rattle.numbers.specs.Digits.{digit_count}
use Rattle.binary.specs.Gf2.{product}

-- p has degree d
pub record Degree (d p : ℕ) : Type 0 where
  pub low : 2 ^ d ≤ p
  pub high : p < 2 ^ suc d

-- the degree of p, which is not 0: one less than the number of its binary digits
unfoldable pub degree_of : ℕ → ℕ
degree_of p = digit_count 2 p - 1

-- p divides x^e - 1, which over two elements is x^e + 1
unfoldable pub Divides : ℕ → ℕ → Type 0
Divides p e = (q : ℕ) × (product p q ≡ bit_xor (2 ^ e) 1)

-- the least e above 0 for which p divides x^e - 1 is 2^d - 1
pub record Primitive (d p : ℕ) : Type 0 where
  pub divides : Divides p (2 ^ d - 1)
  pub least : (e : ℕ) → 0 < e → Divides p e → 2 ^ d - 1 ≤ e

-- ---- the test: x is multiplied by itself, modulo p, until 1 comes

-- x times r, modulo p; top is 2^d
unfoldable pub times_x : ℕ → ℕ → ℕ → ℕ
times_x top p r = cond (ltb (r * 2) top) (r * 2) (bit_xor (r * 2) p)

abbrev pub unless : Bool → Bool → Bool
unless true b = false
unless false b = b

-- from r on, 1 comes after n more multiplications by x, and not before
unfoldable pub only_last : ℕ → ℕ → ℕ → ℕ → Bool
only_last top p zero r = eqb r 1
only_last top p (suc n) r = unless (eqb r 1) (only_last top p n (times_x top p r))

-- of x, x^2, x^3 and so on, x^(2^d - 1) is the first that is 1 modulo p
unfoldable pub is_primitive : ℕ → ℕ → Bool
is_primitive d p = only_last (2 ^ d) p (2 ^ d - 2) (times_x (2 ^ d) p 1)
