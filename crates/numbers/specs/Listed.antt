-- Runs of values as lists. Definitions only.
use Rattle.std.specs.Prelude.{◌≡◌, List, [], ◌∷◌, ◌++◌, ℕ, zero, suc, ◌+◌, ◌-◌, ◌<◌, length, get_or, replicate}

-- f 0, f 1, .., f (m - 1)
unfoldable pub listed : (ℕ → ℕ) → ℕ → List ℕ
listed f zero = []
listed f (suc m) = listed f m ++ f m ∷ []

-- the lists f t, f (t + 1), .., f (t + k - 1), one after another
unfoldable pub joined : (ℕ → List ℕ) → ℕ → ℕ → List ℕ
joined f t zero = []
joined f t (suc k) = joined f t k ++ f (t + k)

-- the first n entries of l are f 0, f 1, .., f (n - 1)
pub record Begins (f : ℕ → ℕ) (n : ℕ) (l : List ℕ) : Type 0 where
  pub at : (i : ℕ) → i < n → get_or l i 0 ≡ f i

-- a list with zeros after it, n in all
unfoldable pub padded : ℕ → List ℕ → List ℕ
padded n l = l ++ replicate (n - length l) 0
