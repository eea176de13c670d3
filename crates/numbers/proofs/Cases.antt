-- The ways in which two numbers compare, and when two tests are the same. Assumes nothing.
use mathlib.Core.Path.{◌≡◌, refl, sym}
use mathlib.Core.Logic.{◌⊎◌, inl, inr}
use mathlib.Core.Bool.{Bool, true, false}
use Prim.Native.Nat.{ℕ, ◌%◌, ◌<◌, ◌≤◌}
use native.Mathlib.Omega.{arith}
use native.Mathlib.Decide.{dec_lt, ℕ_discrete}
use lib.Dec.{T, ltb, eqb, ltb→lt, lt→ltb, eqb→eq, eqb_refl}

pub lt_or_ge : (a b : ℕ) → (a < b) ⊎ (b ≤ a)
lt_or_ge a b = go (dec_lt a b)
  where
    go : Dec (a < b) → (a < b) ⊎ (b ≤ a)
    go (yes p) = inl p
    go (no f) = inr (omega arith)

pub eq_or_ne : (a b : ℕ) → (a ≡ b) ⊎ (a ≡ b → ⊥)
eq_or_ne a b = go (ℕ_discrete a b)
  where
    go : Dec (a ≡ b) → (a ≡ b) ⊎ (a ≡ b → ⊥)
    go (yes p) = inl p
    go (no f) = inr f

pub lt_eq_gt : (a b : ℕ) → (a < b) ⊎ ((a ≡ b) ⊎ (b < a))
lt_eq_gt a b = go (lt_or_ge a b) (lt_or_ge b a)
  where
    go : (a < b) ⊎ (b ≤ a) → (b < a) ⊎ (a ≤ b) → (a < b) ⊎ ((a ≡ b) ⊎ (b < a))
    go (inl p) q = inl p
    go (inr p) (inl q) = inr (inr q)
    go (inr p) (inr q) = inr (inl (omega arith))

pub even_or_odd : (n : ℕ) → (n % 2 ≡ 0) ⊎ (n % 2 ≡ 1)
even_or_odd n = go (lt_or_ge (n % 2) 1)
  where
    go : (n % 2 < 1) ⊎ (1 ≤ n % 2) → (n % 2 ≡ 0) ⊎ (n % 2 ≡ 1)
    go (inl p) = inl (omega arith)
    go (inr p) = inr (omega arith)

-- ---- tests

pub true_or_false : (t : Bool) → (t ≡ true) ⊎ (t ≡ false)
true_or_false true = inl refl
true_or_false false = inr refl

pub holds : (t : Bool) → T t → t ≡ true
holds true h = refl
holds false h = absurd h

pub fails : (t : Bool) → ¬ T t → t ≡ false
fails true f = absurd (f tt)
fails false f = refl

-- two tests that imply one another are equal
pub same_test : (s t : Bool) → (T s → T t) → (T t → T s) → s ≡ t
same_test true t f g = sym (holds t (f tt))
same_test false t f g = sym (fails t g)

pub eq_iff : (a b a' b' : ℕ) → (a ≡ b → a' ≡ b') → (a' ≡ b' → a ≡ b) → eqb a b ≡ eqb a' b'
eq_iff a b a' b' f g =
    same_test (eqb a b) (eqb a' b') (λ t. rw (f (eqb→eq a b t)) (eqb_refl b')) (λ t. rw (g (eqb→eq a' b' t)) (eqb_refl b))

pub lt_iff : (a b a' b' : ℕ) → (a < b → a' < b') → (a' < b' → a < b) → ltb a b ≡ ltb a' b'
lt_iff a b a' b' f g =
    same_test (ltb a b) (ltb a' b') (λ t. lt→ltb a' b' (f (ltb→lt a b t))) (λ t. lt→ltb a b (g (ltb→lt a' b' t)))
