-- One residue class of the numbers 0 to L - 1 is a run of its own: L grows by one, and with it the run where the class has come round.
-- Assumes nothing.
use mathlib.Core.Path.{◌≡◌, refl, ap, ap₂, ◌∙◌}
use mathlib.Core.Logic.{◌⊎◌, inl, inr}
use mathlib.Core.Bool.{Bool, ◌&&◌}
use Prim.Native.Nat.{ℕ, zero, suc, ◌+◌, ◌*◌, ◌%◌, ◌/◌, ◌≤◌, ◌<◌}
use native.Mathlib.Nat.{add-zero, eq-or-lt_of_le, mod-eq_of_lt, add_comm, add-mul-mod_self_right, div-add-mod', lt_of_mul-lt-mul_right, suc-mul}
use native.Mathlib.Omega.{arith}
use lib.Dec.{eqb}
use borrow.Author.Tests.{eq-eqb, ne_eqb}
use Rattle.numbers.specs.Count.{bit, count}

-- the class of i modulo b below L: it has `size` numbers, i + b × 0, i + b × 1 and so on
pub record Thinned (b i L : ℕ) : Type 0 where
  pub size : ℕ
  pub low : L ≤ size * b + i
  pub high : size * b + i < L + b
  pub counts : (p : ℕ → Bool) → count (λ j. eqb (j % b) i && p j) L ≡ count (λ j. p (i + b * j)) size

-- no number of the class stands strictly between two neighbours of it
between : (b i m L : ℕ) → L < m * b + i → m * b + i < L + b → L % b ≡ i → ⊥
between b i m L low high e = omega (arith, above, below)
  where
    above : m < suc (L / b)
    above = lt_of_mul-lt-mul_right b (omega (arith, div-add-mod' L b, suc-mul (L / b) b))

    below : L / b < m
    below = lt_of_mul-lt-mul_right b (omega (arith, div-add-mod' L b))

pub thin : (b i : ℕ) → i < b → (L : ℕ) → Thinned b i L
unfolding count
thin b i h zero = record { size = zero; low = omega arith; high = omega arith; counts = λ p. refl }
thin b i h (suc L) = go (thin b i h L)
  where
    next : (t : Thinned b i L) → (L ≡ t.size * b + i) ⊎ (L < t.size * b + i) → Thinned b i (suc L)
    next t (inl e) =
        record {
          size = suc t.size;
          low = omega (arith, suc-mul t.size b);
          high = omega (arith, suc-mul t.size b);
          counts = λ p. ap₂ ◌+◌ (t.counts p) (rw (eq-eqb (L % b) i class) (ap (λ (x : ℕ). bit (p x)) last));
        }
      where
        last : L ≡ i + b * t.size
        last = omega arith

        class : L % b ≡ i
        class = ap (λ (x : ℕ). x % b) (e ∙ add_comm (t.size * b) i) ∙ add-mul-mod_self_right i t.size b ∙ mod-eq_of_lt h
    next t (inr l) =
        record {
          size = t.size;
          low = l;
          high = omega arith;
          counts = λ p. ap₂ ◌+◌ (t.counts p) (rw (ne_eqb (L % b) i (between b i t.size L l t.high))) ∙ add-zero _;
        }

    go : Thinned b i L → Thinned b i (suc L)
    go t = next t (eq-or-lt_of_le t.low)
