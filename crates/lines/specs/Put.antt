-- What putting a text leaves in the output buffer. Definitions only.
use Rattle.std.specs.Prelude.{◌≡◌, List, ℕ, ◌+◌, ◌≤◌, length}
use Rattle.bits.specs.Stream.{overwrite}
use Rattle.lines.specs.declared.Lines.{Lines}

-- a text that fits what is left of the buffer stands there, after what waits in it, and nothing else of the buffer or of the input moves
pub record Put (l : Lines) (old text : List ℕ) (r : Lines) (new : List ℕ) : Type 0 where
  pub bytes : l.used + length text ≤ length old → new ≡ overwrite old l.used text
  pub used : l.used + length text ≤ length old → r.used ≡ l.used + length text
  pub whole : l.used + length text ≤ length old → r.is_lost ≡ l.is_lost
  pub fits : r.used ≤ length old
