-- Powers of x modulo p multiply: multiplication by x is linear, so it passes through a product by digits, and 1 times b is b. Assumes nothing.
use mathlib.Core.Path.{◌≡◌, refl, sym, ap, ap₂, ◌∙◌}
use mathlib.Core.Logic.{⊎_elim}
use Prim.Native.Nat.{ℕ, zero, suc, ◌+◌, ◌-◌, ◌*◌, ◌/◌, ◌%◌, ◌^◌, ◌≤◌, ◌<◌}
use native.Mathlib.Omega.{arith}
use native.Mathlib.Nat.{pow-suc}
use lib.Arith.{lt-one}
use lib.Pow.{pow_pos, pow-lt, shr-shr}
use lib.Bits.{bit_xor, bit_and, and_mask, xor_zero_r, xor_comm, xor_self, xor_lt}
use Rattle.binary.specs.Gf2.{times}
use Rattle.binary.specs.Polynomial.{Degree, times_x}
use Rattle.binary.specs.Power.{power_of_x}
use Rattle.numbers.proofs.Cases.{lt_or_ge}
use Rattle.binary.proofs.XorLaws.{eq_halves, xor_half, xor_odd, xor_assoc, xor_swap, xor_double, xor_shl}
use Rattle.binary.proofs.CombinationLaws.{times_lt, times_product}
use Rattle.binary.proofs.PolynomialLaws.{top_cancel, top_keep, times_x_less, times_x_more, times_x_lt, power_of_x_lt}

-- a times the polynomial of the n lowest digits of b, modulo p
unfoldable pub times_digits : ℕ → ℕ → ℕ → ℕ → ℕ → ℕ
times_digits top p zero a b = zero
times_digits top p (suc n) a b = bit_xor (times (b % 2) a) (times_digits top p n (times_x top p a) (b / 2))

-- a times b, modulo p
unfoldable pub mul_mod : ℕ → ℕ → ℕ → ℕ → ℕ
mul_mod d p a b = times_digits (2 ^ d) p d a b

-- a number's lowest digit and the others, apart
digit_xor : (b : ℕ) → bit_xor (b % 2) (b / 2 * 2) ≡ b
digit_xor b = eq_halves (bit_xor (b % 2) (b / 2 * 2)) b (xor_half (b % 2) (b / 2 * 2) ∙ ap₂ bit_xor low high) (xor_odd (b % 2) (b / 2 * 2) ∙ odd b)
  where
    low : b % 2 / 2 ≡ 0
    low = omega arith

    high : b / 2 * 2 / 2 ≡ b / 2
    high = omega arith

    odd : (b : ℕ) → (b % 2 + b / 2 * 2) % 2 ≡ b % 2
    odd b = omega arith

pub no_digits : (top p n a : ℕ) → times_digits top p n a 0 ≡ 0
unfolding times_digits
no_digits top p zero a = refl
no_digits top p (suc n) a = no_digits top p n (times_x top p a)

-- the exponent's next digit, tested by a mask
next_half : (e n : ℕ) → 0 < n → e / 2 ^ (n - 1) / 2 ≡ e / 2 ^ n
next_half e n l = shr-shr e (n - 1) 1 ∙ ap (λ (k : ℕ). e / 2 ^ k) one
  where
    one : n - 1 + 1 ≡ n
    one = omega arith

pub digit_one : (e n : ℕ) → 0 < n → bit_and (e / 2 ^ (n - 1)) 1 ≡ 1 → e / 2 ^ (n - 1) ≡ e / 2 ^ n * 2 + 1
digit_one e n l t = of_half (e / 2 ^ (n - 1)) (e / 2 ^ n) (next_half e n l) (sym (and_mask (e / 2 ^ (n - 1)) 1) ∙ t)
  where
    of_half : (f g : ℕ) → f / 2 ≡ g → f % 2 ≡ 1 → f ≡ g * 2 + 1
    of_half f g h o = omega arith

pub digit_zero : (e n : ℕ) → 0 < n → (bit_and (e / 2 ^ (n - 1)) 1 ≡ 1 → ⊥) → e / 2 ^ (n - 1) ≡ e / 2 ^ n * 2
digit_zero e n l t = of_half (e / 2 ^ (n - 1)) (e / 2 ^ n) (next_half e n l) (λ o. t (and_mask (e / 2 ^ (n - 1)) 1 ∙ o))
  where
    of_half : (f g : ℕ) → f / 2 ≡ g → (f % 2 ≡ 1 → ⊥) → f ≡ g * 2
    of_half f g h o = omega arith

module _ (d p : ℕ) (hd : 1 ≤ d) (degree : Degree d p) where
  pub times_x_zero : times_x (2 ^ d) p 0 ≡ 0
  times_x_zero = times_x_less (2 ^ d) p 0 (pow_pos d)

  -- ---- multiplication by x is linear

  pub times_x_xor : (a b : ℕ) → a < 2 ^ d → b < 2 ^ d → times_x (2 ^ d) p (bit_xor a b) ≡ bit_xor (times_x (2 ^ d) p a) (times_x (2 ^ d) p b)
  times_x_xor a b ha hb =
      ⊎_elim
      (λ la. ⊎_elim
      (λ lb. less (xor_lt d (a * 2) (b * 2) la lb) ∙ sym (ap₂ bit_xor (times_x_less (2 ^ d) p a la) (times_x_less (2 ^ d) p b lb)))
      (λ lb. more (top_keep d (b * 2) (a * 2) la (top b hb lb)).low ∙ xor_assoc (a * 2) (b * 2) p
      ∙ sym (ap₂ bit_xor (times_x_less (2 ^ d) p a la) (times_x_more (2 ^ d) p b lb)))
      (lt_or_ge (b * 2) (2 ^ d)))
      (λ la. ⊎_elim
      (λ lb. more (rw (xor_comm (a * 2) (b * 2)) (top_keep d (a * 2) (b * 2) lb (top a ha la)).low) ∙ p_left (a * 2) (b * 2)
      ∙ sym (ap₂ bit_xor (times_x_more (2 ^ d) p a la) (times_x_less (2 ^ d) p b lb)))
      (λ lb. less (top_cancel d (a * 2) (b * 2) (top a ha la) (top b hb lb)) ∙ p_twice (a * 2) (b * 2)
      ∙ sym (ap₂ bit_xor (times_x_more (2 ^ d) p a la) (times_x_more (2 ^ d) p b lb)))
      (lt_or_ge (b * 2) (2 ^ d)))
      (lt_or_ge (a * 2) (2 ^ d))
    where
      top : (r : ℕ) → r < 2 ^ d → 2 ^ d ≤ r * 2 → Degree d (r * 2)
      top r h l = record { low = l; high = omega (arith, pow-suc 2 d) }

      less : bit_xor (a * 2) (b * 2) < 2 ^ d → times_x (2 ^ d) p (bit_xor a b) ≡ bit_xor (a * 2) (b * 2)
      less h = times_x_less (2 ^ d) p (bit_xor a b) (rw xor_double at h) ∙ sym (xor_double a b)

      more : 2 ^ d ≤ bit_xor (a * 2) (b * 2) → times_x (2 ^ d) p (bit_xor a b) ≡ bit_xor (bit_xor (a * 2) (b * 2)) p
      more h = times_x_more (2 ^ d) p (bit_xor a b) (rw xor_double at h) ∙ ap (λ (x : ℕ). bit_xor x p) (sym (xor_double a b))

      p_left : (x y : ℕ) → bit_xor (bit_xor x y) p ≡ bit_xor (bit_xor x p) y
      p_left x y = xor_assoc x y p ∙ ap (bit_xor x) (xor_comm y p) ∙ sym (xor_assoc x p y)

      p_twice : (x y : ℕ) → bit_xor x y ≡ bit_xor (bit_xor x p) (bit_xor y p)
      p_twice x y = sym (xor_swap x p y p ∙ ap (bit_xor (bit_xor x y)) (xor_self p) ∙ xor_zero_r (bit_xor x y))

  times_times_x : (c a : ℕ) → times c (times_x (2 ^ d) p a) ≡ times_x (2 ^ d) p (times c a)
  times_times_x zero a = sym times_x_zero
  times_times_x (suc c) a = refl

  -- ---- the product by digits

  digits_lt : (n a b : ℕ) → a < 2 ^ d → times_digits (2 ^ d) p n a b < 2 ^ d
  unfolding times_digits
  digits_lt zero a b h = pow_pos d
  digits_lt (suc n) a b h =
      xor_lt d (times (b % 2) a) (times_digits (2 ^ d) p n (times_x (2 ^ d) p a) (b / 2))
      (times_lt d (b % 2) a h) (digits_lt n (times_x (2 ^ d) p a) (b / 2) (times_x_lt d p hd degree a h))

  -- x passes from the first factor to the whole
  digits_times_x : (n a b : ℕ) → a < 2 ^ d → times_digits (2 ^ d) p n (times_x (2 ^ d) p a) b ≡ times_x (2 ^ d) p (times_digits (2 ^ d) p n a b)
  unfolding times_digits
  digits_times_x zero a b h = sym times_x_zero
  digits_times_x (suc n) a b h =
      let s = times_x_lt d p hd degree a h in
      ap₂ bit_xor (times_times_x (b % 2) a) (digits_times_x n (times_x (2 ^ d) p a) (b / 2) s)
      ∙ sym (times_x_xor (times (b % 2) a) (times_digits (2 ^ d) p n (times_x (2 ^ d) p a) (b / 2))
      (times_lt d (b % 2) a h) (digits_lt n (times_x (2 ^ d) p a) (b / 2) s))

  -- a factor that is x^i: the digits of the other move i places
  digits_of_power : (n i a b : ℕ) → i + n ≤ d → b < 2 ^ n → (0 < n → a ≡ 2 ^ i) → times_digits (2 ^ d) p n a b ≡ b * 2 ^ i
  unfolding times_digits
  digits_of_power zero i a b h l e = sym (ap (λ (x : ℕ). x * 2 ^ i) (lt-one l) ∙ none (2 ^ i))
    where
      none : (x : ℕ) → 0 * x ≡ 0
      none x = omega arith
  digits_of_power (suc n) i a b h l e =
      ap₂ bit_xor (ap (times (b % 2)) (e (omega arith)) ∙ times_product (b % 2) (2 ^ i) (omega arith))
      (digits_of_power n (suc i) (times_x (2 ^ d) p a) (b / 2) (omega arith) half next ∙ ap (λ (x : ℕ). b / 2 * x) (pow-suc 2 i) ∙ moved (b / 2) (2 ^ i))
      ∙ xor_shl i (b % 2) (b / 2 * 2) ∙ ap (λ (x : ℕ). x * 2 ^ i) (digit_xor b)
    where
      half : b / 2 < 2 ^ n
      half = omega (arith, pow-suc 2 n)

      next : 0 < n → times_x (2 ^ d) p a ≡ 2 ^ suc i
      next k =
          ap (times_x (2 ^ d) p) (e (omega arith))
          ∙ times_x_less (2 ^ d) p (2 ^ i) (omega (arith, pow-suc 2 i, pow-lt {i = suc i} {j = d} (omega arith))) ∙ sym (pow-suc 2 i)

      moved : (x y : ℕ) → x * (y * 2) ≡ x * 2 * y
      moved x y = omega arith

  -- ---- powers of x multiply

  pub mul_mod_powers : (k e : ℕ) → mul_mod d p (power_of_x (2 ^ d) p k) (power_of_x (2 ^ d) p e) ≡ power_of_x (2 ^ d) p (k + e)
  unfolding mul_mod power_of_x
  mul_mod_powers zero e =
      digits_of_power d 0 1 (power_of_x (2 ^ d) p e) (omega arith) (power_of_x_lt d p hd degree e) (λ h. refl)
      ∙ one (power_of_x (2 ^ d) p e) ∙ ap (power_of_x (2 ^ d) p) (none e)
    where
      none : (e : ℕ) → e ≡ 0 + e
      none e = omega arith

      one : (x : ℕ) → x * 1 ≡ x
      one x = omega arith
  mul_mod_powers (suc k) e =
      digits_times_x d (power_of_x (2 ^ d) p k) (power_of_x (2 ^ d) p e) (power_of_x_lt d p hd degree k)
      ∙ ap (times_x (2 ^ d) p) (mul_mod_powers k e) ∙ ap (power_of_x (2 ^ d) p) (one_more k e)
    where
      one_more : (k e : ℕ) → suc (k + e) ≡ suc k + e
      one_more k e = omega arith

pub power_next : (top p e : ℕ) → times_x top p (power_of_x top p e) ≡ power_of_x top p (e + 1)
unfolding power_of_x
power_next top p e = ap (power_of_x top p) (more e)
  where
    more : (e : ℕ) → suc e ≡ e + 1
    more e = omega arith
