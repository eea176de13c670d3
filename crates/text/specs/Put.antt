-- What putting a text leaves in a buffer. Definitions only.
use Rattle.std.specs.Prelude.{◌≡◌, List, ℕ, ◌+◌, length}
use Rattle.bits.specs.Stream.{overwrite}

-- a text was put: it stands from `at` on, all else as found, and `next` is the place after it
pub record TextPut (old new : List ℕ) (at : ℕ) (text : List ℕ) (next : ℕ) : Type 0 where
  pub bytes : new ≡ overwrite old at text
  pub size : length new ≡ length old
  pub after : next ≡ at + length text
