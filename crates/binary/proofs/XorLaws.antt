-- Laws of exclusive or, by halves: a number is its half and its lowest digit, and the lowest digit of a xor b is that of a + b. Assumes nothing.
use mathlib.Core.Path.{◌≡◌, refl, sym, ap, ap₂, ◌∙◌}
use Prim.Native.Nat.{ℕ, zero, ◌+◌, ◌*◌, ◌/◌, ◌%◌, ◌^◌}
use native.Mathlib.Omega.{arith}
use native.Mathlib.Nat.{add-zero}
use lib.Arith.{bin_ind}
use lib.Pow.{pow_pos}
use lib.Bits.{bit_xor, xor_add_and, xor_shr, xor_comm, xor_self, xor_zero_r, xor_block}

pub eq_halves : (a b : ℕ) → a / 2 ≡ b / 2 → a % 2 ≡ b % 2 → a ≡ b
eq_halves a b p q = omega arith

pub xor_half : (a b : ℕ) → bit_xor a b / 2 ≡ bit_xor (a / 2) (b / 2)
xor_half a b = xor_shr a b 1

pub xor_odd : (a b : ℕ) → bit_xor a b % 2 ≡ (a + b) % 2
xor_odd a b = omega (arith, xor_add_and a b)

pub xor_digit : (a b : ℕ) → bit_xor a b % 2 ≡ (a % 2 + b % 2) % 2
xor_digit a b = xor_odd a b ∙ digits a b
  where
    digits : (a b : ℕ) → (a + b) % 2 ≡ (a % 2 + b % 2) % 2
    digits a b = omega arith

-- only the parity of a summand counts
odd_left : (x s c : ℕ) → x % 2 ≡ s % 2 → (x + c) % 2 ≡ (s + c) % 2
odd_left x s c e = omega arith

pub xor_assoc : (a b c : ℕ) → bit_xor (bit_xor a b) c ≡ bit_xor a (bit_xor b c)
xor_assoc =
    bin_ind (λ (a : ℕ). (b c : ℕ) → bit_xor (bit_xor a b) c ≡ bit_xor a (bit_xor b c)) (λ b c. refl)
    (λ a ih b c. eq_halves (bit_xor (bit_xor a b) c) (bit_xor a (bit_xor b c)) (simp (xor_half, ih))
    (xor_odd (bit_xor a b) c ∙ odd_left (bit_xor a b) (a + b) c (xor_odd a b) ∙ regroup a b c
    ∙ sym (xor_odd a (bit_xor b c) ∙ swapped a (bit_xor b c) ∙ odd_left (bit_xor b c) (b + c) a (xor_odd b c))))
  where
    regroup : (a b c : ℕ) → (a + b + c) % 2 ≡ (b + c + a) % 2
    regroup a b c = omega arith

    swapped : (a x : ℕ) → (a + x) % 2 ≡ (x + a) % 2
    swapped a x = omega arith

-- the middle two of four change places
pub xor_swap : (a b c d : ℕ) → bit_xor (bit_xor a b) (bit_xor c d) ≡ bit_xor (bit_xor a c) (bit_xor b d)
xor_swap a b c d = rw (xor_assoc a b (bit_xor c d), ← xor_assoc b c d, xor_comm b c, xor_assoc c b d, xor_assoc a c (bit_xor b d))

pub xor_cancel : (a b : ℕ) → bit_xor (bit_xor a b) b ≡ a
xor_cancel a b = rw (xor_assoc, xor_self, xor_zero_r)

pub xor_eq_zero : (a b : ℕ) → bit_xor a b ≡ zero → a ≡ b
xor_eq_zero a b e = sym (xor_cancel a b) ∙ ap (λ (x : ℕ). bit_xor x b) e

-- a shift passes through
pub xor_shl : (k a b : ℕ) → bit_xor (a * 2 ^ k) (b * 2 ^ k) ≡ bit_xor a b * 2 ^ k
xor_shl k a b =
    ap₂ bit_xor (sym (add-zero (a * 2 ^ k))) (sym (add-zero (b * 2 ^ k)))
    ∙ xor_block k a b zero zero (pow_pos k) (pow_pos k) ∙ add-zero (bit_xor a b * 2 ^ k)

pub xor_double : (a b : ℕ) → bit_xor (a * 2) (b * 2) ≡ bit_xor a b * 2
xor_double a b = xor_shl 1 a b
