-- What keeping a byte of a line leaves. Definitions only.
use Rattle.std.specs.Prelude.{◌≡◌, List, ℕ, ◌+◌, ◌<◌, ◌≤◌, length, set}

-- the line had n bytes and has m: one more, which stands after the others while it is one of the first 1,024; no byte moves otherwise
pub record Kept (old : List ℕ) (n b m : ℕ) (new : List ℕ) : Type 0 where
  pub below : n < 1024 → (m ≡ n + 1) × (new ≡ set old n b)
  pub above : 1024 ≤ n → (1024 < m) × (new ≡ old)
  pub most : m ≤ 1026
  pub size : length new ≡ length old
