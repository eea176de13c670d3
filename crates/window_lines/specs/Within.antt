-- The sizes of a window that was read. Definitions only.
use Rattle.std.specs.Prelude.{◌≡◌, ℕ, ◌+◌, ◌≤◌, length}
use Rattle.window_lines.specs.declared.WindowRead.{WindowRead}

-- at most seven cuts, and a name of at most 32 bytes in a text of n
pub record Within (r : WindowRead) (n : ℕ) : Type 0 where
  pub seven : r.axes ≤ 7
  pub room : length r.cuts ≡ 14
  pub forward : r.start ≤ r.end
  pub short : r.end ≤ r.start + 32
  pub inside : r.end ≤ n
