-- A buffer of points as rows of s numbers, so that an axis is a column. Definitions only.
use Rattle.std.specs.Prelude.{◌≡◌, List, [], ◌++◌, ℕ, zero, suc, ◌+◌, ◌*◌, ◌<◌, ◌≤◌, length, get_or}
use Rattle.numbers.specs.Listed.{listed}

-- column j of the rows lo .. hi - 1 now holds g; nothing else changed
pub record Column (g : ℕ → ℕ) (lo hi s j : ℕ) (old new : List ℕ) : Type 0 where
  pub same_length : length new ≡ length old
  pub wrote : (i : ℕ) → lo ≤ i → i < hi → get_or new (i * s + j) 0 ≡ g i
  pub kept : (p : ℕ) → ((i : ℕ) → lo ≤ i → i < hi → p ≡ i * s + j → ⊥) → get_or new p 0 ≡ get_or old p 0

-- columns c .. c + j - 1 of the rows lo .. hi - 1 now hold g, which has the column first, from 0, then the row; nothing else changed
pub record Columns (g : ℕ → ℕ → ℕ) (lo hi s c j : ℕ) (old new : List ℕ) : Type 0 where
  pub same_length : length new ≡ length old
  pub wrote : (i a : ℕ) → lo ≤ i → i < hi → a < j → get_or new (i * s + (c + a)) 0 ≡ g a i
  pub kept : (p : ℕ) → ((i a : ℕ) → lo ≤ i → i < hi → a < j → p ≡ i * s + (c + a) → ⊥) → get_or new p 0 ≡ get_or old p 0

-- a column in front of others
unfoldable pub in_front : (ℕ → ℕ) → (ℕ → ℕ → ℕ) → ℕ → ℕ → ℕ
in_front h g zero i = h i
in_front h g (suc a) i = g a i

-- k rows of s numbers, one after the other; g as above
unfoldable pub rows : (ℕ → ℕ → ℕ) → ℕ → ℕ → List ℕ
rows g s zero = []
rows g s (suc k) = rows g s k ++ listed (λ a. g a k) s
