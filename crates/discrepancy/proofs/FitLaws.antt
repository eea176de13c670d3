-- The bound grows with the steps; and it fits a 64-bit word, for bases up to 256, runs of at most 2^32 steps and six axes: no base's factor
-- passes that of 256, which is tested for each base. Assumes nothing.
use mathlib.Core.Path.{◌≡◌, refl}
use mathlib.Core.Bool.{Bool, true}
use Prim.Native.Nat.{ℕ, zero, suc, ◌+◌, ◌-◌, ◌^◌, ◌≤◌, ◌<◌}
use native.Mathlib.Nat.{le_refl, le_trans, lt_of_le_of_lt, mul-le-mul, mul-le-mul_right, pow-suc, pow-le-pow_right}
use native.Mathlib.Omega.{arith}
use lib.Dec.{leb, lit<, lit≤}
use borrow.Author.Tests.{leb-true}
use Rattle.numbers.specs.Digits.{digit_count, digit_count_in, product_to}
use Rattle.numbers.specs.Count.{each}
use Rattle.numbers.proofs.EachLaws.{each_at}
use Rattle.numbers.proofs.DigitLaws.{digit_count_mono, product_mono}
use Rattle.discrepancy.specs.Bound.{factor, factor_at, bound}

factor_mono : (b : ℕ) → 2 ≤ b → {n m : ℕ} → n ≤ m → factor b n ≤ factor b m
unfolding factor
factor_mono b l h = omega (arith, mul-le-mul_right (b - 1) (digit_count_mono b l h))

pub bound_mono : (b : ℕ → ℕ) (s : ℕ) → ((i : ℕ) → i < s → 2 ≤ b i) → {n m : ℕ} → n ≤ m → bound b s n ≤ bound b s m
bound_mono b s l {n} {m} h = product_mono (factor_at b n) (factor_at b m) s (λ i k. factor_mono (b i) (l i k) h)

-- at the longest run
abbrev factor_small : ℕ → Bool
factor_small c = leb (factor (c + 2) (2 ^ 32)) 1276

factors_small : each factor_small 255 ≡ true
unfolding each factor digit_count digit_count_in
factors_small = refl

pub factor_le : (b N : ℕ) → 2 ≤ b → b ≤ 256 → N ≤ 2 ^ 32 → factor b N ≤ 1276
factor_le b N l h n = le_trans (factor_mono b l n) (leb-true _ _ (rw again at (each_at factor_small 255 (b - 2) factors_small (omega arith))))
  where
    again : b - 2 + 2 ≡ b
    again = omega arith

module _ (N : ℕ) (b : ℕ → ℕ) (n : N ≤ 2 ^ 32) where
  bound_le : (s : ℕ) → ((i : ℕ) → i < s → (2 ≤ b i) × (b i ≤ 256)) → bound b s N ≤ 1276 ^ s
  unfolding product_to
  bound_le zero h = lit≤ tt
  bound_le (suc s) h =
      let base = h s (le_refl (suc s)) in
      rw pow-suc (mul-le-mul (bound_le s (λ i l. h i (omega arith))) (factor_le (b s) N base.0 base.1 n))

  -- the bound of six axes is a word, and so is one more
  pub bound_fits : (s : ℕ) → s ≤ 6 → ((i : ℕ) → i < s → (2 ≤ b i) × (b i ≤ 256)) → bound b s N < 2 ^ 63
  bound_fits s l h = lt_of_le_of_lt (le_trans (bound_le s h) (pow-le-pow_right (lit< tt) l)) (lit< tt)
