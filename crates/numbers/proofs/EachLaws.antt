-- A test of each number below a limit: what it says of one of them, and what each of them says of it. Assumes nothing.
use mathlib.Core.Path.{◌≡◌, refl, sym}
use mathlib.Core.Logic.{◌⊎◌, inl, inr, ⊎_elim}
use mathlib.Core.Bool.{Bool, true, false, and-false, and-eq-true_iff}
use Prim.Native.Nat.{ℕ, zero, suc, ◌+◌, ◌<◌}
use native.Mathlib.Nat.{le_refl, le_of_suc-le-suc, eq-or-lt_of_le}
use native.Mathlib.Numerals.{add-one}
use native.Mathlib.Omega.{arith}
use Rattle.numbers.specs.Count.{each}

pub each_at : (p : ℕ → Bool) (n i : ℕ) → each p n ≡ true → i < n → p i ≡ true
unfolding each
each_at p zero i e h = absurd (omega arith)
each_at p (suc n) i e h =
    let both = (and-eq-true_iff (each p n) (p n)).0 e in
    ⊎_elim (λ (same : i ≡ n). rw same both.1) (each_at p n i both.0) (eq-or-lt_of_le (le_of_suc-le-suc h))

pub each_none : (p : ℕ → Bool) → each p 0 ≡ true
unfolding each
each_none p = refl

pub each_more : (p : ℕ → Bool) (n : ℕ) → each p n ≡ true → p n ≡ true → each p (n + 1) ≡ true
unfolding each
each_more p n a e = rw (add-one n, a, e) refl

pub each_all : (p : ℕ → Bool) (n : ℕ) → ((i : ℕ) → i < n → p i ≡ true) → each p n ≡ true
unfolding each
each_all p zero h = refl
each_all p (suc n) h = rw (each_all p n (λ i l. h i (omega arith)), h n (le_refl (suc n))) refl

-- one that fails is enough
pub each_fail : (p : ℕ → Bool) (n i : ℕ) → i < n → p i ≡ false → each p n ≡ false
unfolding each
each_fail p zero i l e = absurd (omega arith)
each_fail p (suc n) i l e = go (eq-or-lt_of_le (le_of_suc-le-suc l)) (λ h. each_fail p n i h e)
  where
    go : (i ≡ n) ⊎ (i < n) → (i < n → each p n ≡ false) → each p (suc n) ≡ false
    go (inl h) before = rw (sym h, e) (and-false (each p i))
    go (inr h) before = rw (before h) refl

-- equal tests of each number below n
pub each_ext : (p q : ℕ → Bool) (n : ℕ) → ((i : ℕ) → i < n → p i ≡ q i) → each p n ≡ each q n
unfolding each
each_ext p q zero h = refl
each_ext p q (suc n) h = rw (each_ext p q n (λ i l. h i (omega arith)), h n (le_refl (suc n))) refl
