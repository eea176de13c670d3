-- Flags for a row of numbers, one each: a test of the numbers clears the flags of those that are not below a limit. Definitions only.
use Rattle.std.specs.Prelude.{◌≡◌, cond, ◌⊎◌, List, ℕ, ◌<◌, ◌≤◌, ltb, length, get_or}

-- the flags lo .. hi - 1 are kept where g is below the limit and cleared elsewhere; no other changed
pub record Marked (g : ℕ → ℕ) (limit lo hi : ℕ) (old new : List ℕ) : Type 0 where
  pub same_length : length new ≡ length old
  pub tested : (i : ℕ) → lo ≤ i → i < hi → get_or new i 0 ≡ cond (ltb (g i) limit) (get_or old i 0) 0
  pub kept : (i : ℕ) → (i < lo) ⊎ (hi ≤ i) → get_or new i 0 ≡ get_or old i 0
