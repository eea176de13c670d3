-- Euclid's rule as a loop uses it, and that what it finds is the greatest common divisor: 1 exactly for coprime numbers. Assumes nothing.
use mathlib.Core.Path.{◌≡◌, refl, subst}
use mathlib.Core.Logic.{◌↔◌}
use Prim.Native.Nat.{ℕ, zero, suc, ◌%◌, ◌<◌, ◌≤◌, ◌∣◌}
use native.Mathlib.Nat.{le_refl, mod-lt, zero-lt-suc, dvd_refl, dvd-zero, dvd-mod_iff, eq-one_of_dvd-one}
use native.Mathlib.Omega.{arith}
use Rattle.numbers.specs.Gcd.{gcd_in, gcd, Coprime}

-- ---- the two rules

fuel : (f g a b : ℕ) → b ≤ f → b ≤ g → gcd_in f a b ≡ gcd_in g a b
unfolding gcd_in
fuel zero zero a b p q = refl
fuel zero (suc g) a zero p q = refl
fuel zero (suc g) a (suc b) p q = absurd (omega arith)
fuel (suc f) zero a zero p q = refl
fuel (suc f) zero a (suc b) p q = absurd (omega arith)
fuel (suc f) (suc g) a zero p q = refl
fuel (suc f) (suc g) a (suc b) p q =
    let h : a % suc b < suc b = mod-lt a (zero-lt-suc b) in
    fuel f g (suc b) (a % suc b) (omega arith) (omega arith)

pub gcd_zero : (a b : ℕ) → b ≡ 0 → gcd a b ≡ a
unfolding gcd gcd_in
gcd_zero a zero e = refl
gcd_zero a (suc b) e = absurd (omega arith)

pub gcd_step : (a b : ℕ) → (b ≡ 0 → ⊥) → gcd a b ≡ gcd b (a % b)
unfolding gcd gcd_in
gcd_step a zero f = absurd (f refl)
gcd_step a (suc b) f =
    let h : a % suc b < suc b = mod-lt a (zero-lt-suc b) in
    fuel b (a % suc b) (suc b) (a % suc b) (omega arith) (le_refl _)

-- ---- a common divisor, and the greatest

divides_in : (f a b : ℕ) → b ≤ f → (gcd_in f a b ∣ a) × (gcd_in f a b ∣ b)
unfolding gcd_in
divides_in zero a zero l = (dvd_refl a, dvd-zero a)
divides_in zero a (suc b) l = absurd (omega arith)
divides_in (suc f) a zero l = (dvd_refl a, dvd-zero a)
divides_in (suc f) a (suc b) l =
    let h = divides_in f (suc b) (a % suc b) (omega (arith, mod-lt a (zero-lt-suc b))) in
    ((dvd-mod_iff _ h.0).0 h.1, h.0)

greatest_in : (f a b d : ℕ) → d ∣ a → d ∣ b → d ∣ gcd_in f a b
unfolding gcd_in
greatest_in zero a b d p q = p
greatest_in (suc f) a zero d p q = p
greatest_in (suc f) a (suc b) d p q = greatest_in f (suc b) (a % suc b) d q ((dvd-mod_iff d q).1 p)

pub gcd_divides : (a b : ℕ) → (gcd a b ∣ a) × (gcd a b ∣ b)
unfolding gcd
gcd_divides a b = divides_in b a b (le_refl b)

pub gcd_greatest : (a b d : ℕ) → d ∣ a → d ∣ b → d ∣ gcd a b
unfolding gcd
gcd_greatest a b d p q = greatest_in b a b d p q

pub gcd_one_iff_coprime : (a b : ℕ) → (gcd a b ≡ 1) ↔ Coprime a b
gcd_one_iff_coprime a b = (
  λ e d p q. eq-one_of_dvd-one (subst (λ (g : ℕ). d ∣ g) e (gcd_greatest a b d p q)),
  λ c. c (gcd a b) (gcd_divides a b).0 (gcd_divides a b).1,
)
