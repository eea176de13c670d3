-- Squares modulo p: (a + b)^2 is a^2 + b^2, so the digits of a number pick its square from the squares of 1, x, x^2 and so on. Assumes nothing.
use mathlib.Core.Path.{◌≡◌, refl, sym, ap, ap₂, ◌∙◌, subst}
use mathlib.Core.List.{List}
use mathlib.Core.Logic.{⊎_elim}
use Prim.Native.Nat.{ℕ, zero, suc, ◌+◌, ◌*◌, ◌/◌, ◌%◌, ◌^◌, ◌≤◌, ◌<◌}
use native.Mathlib.Omega.{arith}
use native.Mathlib.Nat.{pow-suc}
use lib.Arith.{lt-one}
use lib.Pow.{pow_pos, pow-lt}
use lib.Bits.{bit_xor, xor_self}
use Rattle.binary.specs.Gf2.{times, combination}
use Rattle.binary.specs.Polynomial.{Degree, times_x}
use Rattle.binary.specs.Power.{power_of_x, Squares}
use Rattle.numbers.proofs.Cases.{lt_or_ge}
use Rattle.binary.proofs.XorLaws.{xor_half, xor_assoc, xor_swap, xor_cancel}
use Rattle.binary.proofs.CombinationLaws.{times_digit_xor, combination_xor, combination_zero, combination_pow}
use Rattle.binary.proofs.PolynomialLaws.{top_cancel, times_x_less, times_x_lt, power_of_x_lt}
use Rattle.binary.proofs.PowerLaws.{times_digits, mul_mod, times_x_zero, times_x_xor, no_digits, mul_mod_powers}

-- what holds of 0, and of a number with a digit set above its own, holds of every number of d digits
by_digits : (d : ℕ) (P : ℕ → Type 0) → P 0 → ((k a : ℕ) → k < d → a < 2 ^ k → P a → P (bit_xor a (2 ^ k))) → (a : ℕ) → a < 2 ^ d → P a
by_digits d P none more a = go d (omega arith) a
  where
    go : (m : ℕ) → m ≤ d → (a : ℕ) → a < 2 ^ m → P a
    go zero h a l = subst P (sym (lt-one l)) none
    go (suc m) h a l =
        ⊎_elim (λ q. go m (omega arith) a q)
        (λ q.
        let low = top_cancel m a (2 ^ m) (record { low = q; high = l }) (record { low = omega arith; high = omega (arith, pow-suc 2 m, pow_pos m) }) in
        subst P (xor_cancel a (2 ^ m)) (more m (bit_xor a (2 ^ m)) (omega arith) low (go m (omega arith) (bit_xor a (2 ^ m)) low)))
        (lt_or_ge a (2 ^ m))

times_sum : (c a b : ℕ) → times c (bit_xor a b) ≡ bit_xor (times c a) (times c b)
times_sum zero a b = refl
times_sum (suc c) a b = refl

-- ---- a product is linear in each factor

digits_right : (top p n a b c : ℕ) → times_digits top p n a (bit_xor b c) ≡ bit_xor (times_digits top p n a b) (times_digits top p n a c)
unfolding times_digits
digits_right top p zero a b c = refl
digits_right top p (suc n) a b c =
    let y = times_x top p a in
    ap₂ bit_xor (times_digit_xor a b c) (ap (times_digits top p n y) (xor_half b c) ∙ digits_right top p n y (b / 2) (c / 2))
    ∙ xor_swap (times (b % 2) a) (times (c % 2) a) (times_digits top p n y (b / 2)) (times_digits top p n y (c / 2))

module _ (d p : ℕ) (hd : 1 ≤ d) (degree : Degree d p) where
  digits_left : (n a b c : ℕ) → a < 2 ^ d → b < 2 ^ d
      → times_digits (2 ^ d) p n (bit_xor a b) c ≡ bit_xor (times_digits (2 ^ d) p n a c) (times_digits (2 ^ d) p n b c)
  unfolding times_digits
  digits_left zero a b c ha hb = refl
  digits_left (suc n) a b c ha hb =
      let x = times_x (2 ^ d) p a in
      let y = times_x (2 ^ d) p b in
      ap₂ bit_xor (times_sum (c % 2) a b)
      (ap (λ (z : ℕ). times_digits (2 ^ d) p n z (c / 2)) (times_x_xor d p hd degree a b ha hb)
      ∙ digits_left n x y (c / 2) (times_x_lt d p hd degree a ha) (times_x_lt d p hd degree b hb))
      ∙ xor_swap (times (c % 2) a) (times (c % 2) b) (times_digits (2 ^ d) p n x (c / 2)) (times_digits (2 ^ d) p n y (c / 2))

  digits_of_zero : (n b : ℕ) → times_digits (2 ^ d) p n 0 b ≡ 0
  unfolding times_digits
  digits_of_zero zero b = refl
  digits_of_zero (suc n) b =
      ap₂ bit_xor (nothing (b % 2)) (ap (λ (z : ℕ). times_digits (2 ^ d) p n z (b / 2)) (times_x_zero d p hd degree) ∙ digits_of_zero n (b / 2))
    where
      nothing : (c : ℕ) → times c 0 ≡ 0
      nothing zero = refl
      nothing (suc c) = refl

  -- the first powers of x are single digits
  first_power : (k : ℕ) → k < d → power_of_x (2 ^ d) p k ≡ 2 ^ k
  unfolding power_of_x
  first_power zero h = refl
  first_power (suc k) h =
      ap (times_x (2 ^ d) p) (first_power k (omega arith))
      ∙ times_x_less (2 ^ d) p (2 ^ k) (omega (arith, pow-suc 2 k, pow-lt {i = suc k} {j = d} h)) ∙ sym (pow-suc 2 k)

  product_of_digits : (j k : ℕ) → j < d → k < d → mul_mod d p (2 ^ j) (2 ^ k) ≡ power_of_x (2 ^ d) p (j + k)
  product_of_digits j k hj hk = ap₂ (mul_mod d p) (sym (first_power j hj)) (sym (first_power k hk)) ∙ mul_mod_powers d p hd degree j k

  twice : (k : ℕ) → k + k ≡ k * 2
  twice k = omega arith

  -- ---- a factor that is a single digit may change its place

  commutes : (k : ℕ) → k < d → (a : ℕ) → a < 2 ^ d → mul_mod d p a (2 ^ k) ≡ mul_mod d p (2 ^ k) a
  unfolding mul_mod
  commutes k hk = by_digits d (λ a. mul_mod d p a (2 ^ k) ≡ mul_mod d p (2 ^ k) a) (digits_of_zero d (2 ^ k) ∙ sym (no_digits (2 ^ d) p d (2 ^ k))) more
    where
      turned : (j k : ℕ) → j + k ≡ k + j
      turned j k = omega arith

      more : (j a : ℕ) → j < d → a < 2 ^ j → mul_mod d p a (2 ^ k) ≡ mul_mod d p (2 ^ k) a → mul_mod d p (bit_xor a (2 ^ j)) (2 ^ k) ≡ mul_mod d p (2 ^ k) (bit_xor a (2 ^ j))
      more j a hj ha e =
          digits_left d a (2 ^ j) (2 ^ k) (omega (arith, pow-lt {i = j} {j = d} hj)) (pow-lt hj)
          ∙ ap₂ bit_xor e (product_of_digits j k hj hk ∙ ap (power_of_x (2 ^ d) p) (turned j k) ∙ sym (product_of_digits k j hk hj))
          ∙ sym (digits_right (2 ^ d) p d (2 ^ k) a (2 ^ j))

  -- ---- the squares of 1, x, x^2 and so on give every square

  module _ (words : List ℕ) (squares : Squares d p words) where
    square_picked : (a : ℕ) → a < 2 ^ d → mul_mod d p a a ≡ combination words a
    unfolding mul_mod Squares
    square_picked = by_digits d (λ a. mul_mod d p a a ≡ combination words a) (no_digits (2 ^ d) p d 0 ∙ sym (combination_zero words)) more
      where
        outer : (u v w : ℕ) → bit_xor (bit_xor u v) (bit_xor v w) ≡ bit_xor u w
        outer u v w = xor_assoc u v (bit_xor v w) ∙ ap (bit_xor u) (sym (xor_assoc v v w) ∙ ap (λ (z : ℕ). bit_xor z w) (xor_self v))

        more : (k a : ℕ) → k < d → a < 2 ^ k → mul_mod d p a a ≡ combination words a → mul_mod d p (bit_xor a (2 ^ k)) (bit_xor a (2 ^ k)) ≡ combination words (bit_xor a (2 ^ k))
        more k a hk ha e =
            let below : a < 2 ^ d = omega (arith, pow-lt {i = k} {j = d} hk) in
            digits_left d a (2 ^ k) (bit_xor a (2 ^ k)) below (pow-lt hk)
            ∙ ap₂ bit_xor (digits_right (2 ^ d) p d a a (2 ^ k) ∙ ap (bit_xor (mul_mod d p a a)) (commutes k hk a below)) (digits_right (2 ^ d) p d (2 ^ k) a (2 ^ k))
            ∙ outer (mul_mod d p a a) (mul_mod d p (2 ^ k) a) (mul_mod d p (2 ^ k) (2 ^ k))
            ∙ ap₂ bit_xor e (product_of_digits k k hk hk ∙ ap (power_of_x (2 ^ d) p) (twice k) ∙ sym (squares k hk) ∙ sym (combination_pow words k))
            ∙ sym (combination_xor words a (2 ^ k))

    -- the square of a power of x
    pub power_squared : (e : ℕ) → combination words (power_of_x (2 ^ d) p e) ≡ power_of_x (2 ^ d) p (e * 2)
    power_squared e =
        sym (square_picked (power_of_x (2 ^ d) p e) (power_of_x_lt d p hd degree e)) ∙ mul_mod_powers d p hd degree e e ∙ ap (power_of_x (2 ^ d) p) (twice e)
