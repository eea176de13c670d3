-- Linear combinations of words over two elements, by a number's digits: they are linear in the number, are one word at a power of two, go through
-- the list from its front, and split after any number of words. Assumes nothing.
use mathlib.Core.Path.{◌≡◌, refl, sym, ap, ap₂, ◌∙◌}
use mathlib.Core.List.{List, [], ◌∷◌}
use mathlib.Core.Logic.{⊎_elim}
use Prim.Native.Nat.{ℕ, zero, suc, ◌+◌, ◌*◌, ◌/◌, ◌%◌, ◌^◌, ◌≤◌, ◌<◌}
use native.Mathlib.Omega.{arith}
use native.Mathlib.Numerals.{add-one, one-add}
use native.Mathlib.Nat.{not-suc-le-zero, le_of_suc-le-suc, pow-suc, div-one}
use lib.ListN.{length, get_or, take, drop}
use lib.Pow.{pow_pos, field, mod-mod-pow, shr-shr}
use lib.Bits.{bit_xor, bit_and, and_mask, xor_zero_r, xor_self}
use Rattle.binary.specs.Gf2.{times, combination}
use Rattle.numbers.proofs.Cases.{even_or_odd}
use Rattle.binary.proofs.XorLaws.{xor_half, xor_digit, xor_assoc, xor_swap}

-- ---- a word times a digit

-- digits add modulo 2
pub times_xor : (v x y z : ℕ) → x < 2 → y < 2 → z ≡ (x + y) % 2 → times z v ≡ bit_xor (times x v) (times y v)
times_xor v zero zero z hx hy e = ap (λ (d : ℕ). times d v) e
times_xor v zero (suc zero) z hx hy e = ap (λ (d : ℕ). times d v) e
times_xor v (suc zero) zero z hx hy e = ap (λ (d : ℕ). times d v) e ∙ sym (xor_zero_r v)
times_xor v (suc zero) (suc zero) z hx hy e = ap (λ (d : ℕ). times d v) e ∙ sym (xor_self v)
times_xor v zero (suc (suc y)) z hx hy e = absurd (omega arith)
times_xor v (suc zero) (suc (suc y)) z hx hy e = absurd (omega arith)
times_xor v (suc (suc x)) y z hx hy e = absurd (omega arith)

pub times_digit_xor : (v a b : ℕ) → times (bit_xor a b % 2) v ≡ bit_xor (times (a % 2) v) (times (b % 2) v)
times_digit_xor v a b = times_xor v (a % 2) (b % 2) (bit_xor a b % 2) (omega arith) (omega arith) (xor_digit a b)

pub times_lt : (k d v : ℕ) → v < 2 ^ k → times d v < 2 ^ k
times_lt k zero v h = pow_pos k
times_lt k (suc d) v h = h

pub times_product : (c v : ℕ) → c < 2 → times c v ≡ c * v
times_product zero v h = omega arith
times_product (suc zero) v h = omega arith
times_product (suc (suc c)) v h = absurd (omega arith)

-- a digit taken by a mask, as a factor
pub times_masked : (g v : ℕ) → v * bit_and g 1 ≡ times (g % 2) v
times_masked g v = ap (λ (d : ℕ). v * d) (and_mask g 1) ∙ turned v (g % 2) ∙ sym (times_product (g % 2) v (omega arith))
  where
    turned : (x y : ℕ) → x * y ≡ y * x
    turned x y = omega arith

-- a digit tested by a mask
pub times_set : (g v : ℕ) → bit_and g 1 ≡ 1 → v ≡ times (g % 2) v
times_set g v e = ap (λ (d : ℕ). times d v) (sym e ∙ and_mask g 1)

pub times_clear : (g v : ℕ) → (bit_and g 1 ≡ 1 → ⊥) → 0 ≡ times (g % 2) v
times_clear g v unset = ap (λ (d : ℕ). times d v) (⊎_elim (λ e. sym e) (λ o. absurd (unset (and_mask g 1 ∙ o))) (even_or_odd g))

-- ---- it is linear in the number

pub combination_xor : (vs : List ℕ) (a b : ℕ) → combination vs (bit_xor a b) ≡ bit_xor (combination vs a) (combination vs b)
unfolding combination
combination_xor [] a b = refl
combination_xor (v ∷ vs) a b =
    ap₂ bit_xor (times_digit_xor v a b) (ap (combination vs) (xor_half a b) ∙ combination_xor vs (a / 2) (b / 2))
    ∙ xor_swap (times (a % 2) v) (times (b % 2) v) (combination vs (a / 2)) (combination vs (b / 2))

pub combination_zero : (vs : List ℕ) → combination vs 0 ≡ 0
unfolding combination
combination_zero [] = refl
combination_zero (v ∷ vs) = combination_zero vs

-- one digit picks one word
pub combination_pow : (vs : List ℕ) (j : ℕ) → combination vs (2 ^ j) ≡ get_or vs j 0
unfolding combination
combination_pow [] zero = refl
combination_pow [] (suc j) = refl
combination_pow (v ∷ vs) zero = ap (bit_xor v) (combination_zero vs) ∙ xor_zero_r v
combination_pow (v ∷ vs) (suc j) = ap₂ (λ (d h : ℕ). bit_xor (times d v) (combination vs h)) even half ∙ combination_pow vs j
  where
    even : 2 ^ suc j % 2 ≡ 0
    even = omega (arith, pow-suc 2 j)

    half : 2 ^ suc j / 2 ≡ 2 ^ j
    half = omega (arith, pow-suc 2 j)

-- ---- it goes through the list from its front

times_none : (d : ℕ) → 0 ≡ bit_xor (times d 0) 0
times_none zero = refl
times_none (suc d) = refl

pub combination_drop : (vs : List ℕ) (j g : ℕ) → combination (drop j vs) g ≡ bit_xor (times (g % 2) (get_or vs j 0)) (combination (drop (suc j) vs) (g / 2))
unfolding combination
combination_drop [] zero g = times_none (g % 2)
combination_drop [] (suc j) g = times_none (g % 2)
combination_drop (v ∷ vs) zero g = refl
combination_drop (v ∷ vs) (suc j) g = combination_drop vs j g

pub combination_past : (vs : List ℕ) (j g : ℕ) → length vs ≤ j → combination (drop j vs) g ≡ 0
unfolding combination
combination_past [] zero g h = refl
combination_past [] (suc j) g h = refl
combination_past (v ∷ vs) zero g h = absurd (not-suc-le-zero h)
combination_past (v ∷ vs) (suc j) g h = combination_past vs j g (le_of_suc-le-suc h)

-- One turn of a jump's loop: x becomes y, and x with what is left of the list is the whole.
pub combination_turn : (vs : List ℕ) (j g x y whole : ℕ) → y ≡ bit_xor x (times (g % 2) (get_or vs j 0)) → bit_xor x (combination (drop j vs) g) ≡ whole
    → bit_xor y (combination (drop (j + 1) vs) (g / 2)) ≡ whole
combination_turn vs j g x y whole e h =
    ap₂ (λ (y k : ℕ). bit_xor y (combination (drop k vs) (g / 2))) e (add-one j)
    ∙ xor_assoc x (times (g % 2) (get_or vs j 0)) (combination (drop (suc j) vs) (g / 2))
    ∙ ap (bit_xor x) (sym (combination_drop vs j g)) ∙ h

-- ---- the first k words with the k lowest digits, and the other words with the others

pub combination_split : (k : ℕ) (vs : List ℕ) (g : ℕ) → combination vs g ≡ bit_xor (combination (take k vs) (g % 2 ^ k)) (combination (drop k vs) (g / 2 ^ k))
unfolding combination
combination_split zero vs g = sym (ap (combination vs) (div-one g))
combination_split (suc k) [] g = refl
combination_split (suc k) (v ∷ vs) g =
    ap (bit_xor (times (g % 2) v)) (combination_split k vs (g / 2))
    ∙ sym (xor_assoc (times (g % 2) v) (combination (take k vs) (g / 2 % 2 ^ k)) (combination (drop k vs) (g / 2 / 2 ^ k)))
    ∙ ap₂ bit_xor (ap₂ (λ (c h : ℕ). bit_xor (times c v) (combination (take k vs) h)) (sym low) (sym middle)) (ap (combination (drop k vs)) high)
  where
    low : g % 2 ^ suc k % 2 ≡ g % 2
    low = ap (λ (n : ℕ). g % 2 ^ n % 2) (sym (add-one k)) ∙ mod-mod-pow g k 1

    middle : g % 2 ^ suc k / 2 ≡ g / 2 % 2 ^ k
    middle = ap (λ (n : ℕ). g % 2 ^ n / 2) (sym (add-one k)) ∙ field g k 1

    high : g / 2 / 2 ^ k ≡ g / 2 ^ suc k
    high = shr-shr g 1 k ∙ ap (λ (n : ℕ). g / 2 ^ n) (one-add k)
