-- What writing a part of a plan leaves in a buffer. Definitions only.
use Rattle.std.specs.Prelude.{◌≡◌, List, ℕ, ◌+◌, length}
use Rattle.bits.specs.Stream.{bits_of, overwrite}

-- a part was written: its bits stand from `start` on, all else as found, and `next` is the bit after it
pub record BitsPut (old new : List ℕ) (start : ℕ) (x : List ℕ) (next : ℕ) : Type 0 where
  pub bits : bits_of new ≡ overwrite (bits_of old) start x
  pub size : length new ≡ length old
  pub after : next ≡ start + length x
