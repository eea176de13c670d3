-- The bytes that a word spells in hexadecimal. Definitions only.
use Rattle.std.specs.Prelude.{◌≡◌, Bool, cond, ◌&&◌, List, ◌++◌, ℕ, ◌+◌, ◌*◌, ◌-◌, ◌/◌, ◌%◌, ltb, leb, length, drop, get_or}
use Rattle.io.specs.Counts.{IsPrefixLen}
use Rattle.numbers.specs.Listed.{listed}

abbrev pub between : ℕ → ℕ → ℕ → Bool
between low high b = leb low b && leb b high

-- the value of a digit, 0 to 9, A to F or a to f; 16 for any other byte
unfoldable pub hex_value : ℕ → ℕ
hex_value b = cond (between 48 57 b) (b - 48) (cond (between 65 70 b) (b - 55) (cond (between 97 102 b) (b - 87) 16))

unfoldable pub is_hex : ℕ → Bool
is_hex b = ltb (hex_value b) 16

-- the byte that pair i of a word's digits spells, the high digit first; a byte that is no digit counts as 0
unfoldable pub hex_byte : List ℕ → ℕ → ℕ
hex_byte word i = hex_value (get_or word (2 * i) 0) % 16 * 16 + hex_value (get_or word (2 * i + 1) 0) % 16

-- the bytes of a word's pairs; an odd last digit is left out
unfoldable pub hex_bytes : List ℕ → List ℕ
hex_bytes word = listed (hex_byte word) (length word / 2)

-- n bytes of a buffer are those, and the others as they were
pub record Hexed (word old : List ℕ) (n : ℕ) (new : List ℕ) : Type 0 where
  pub size : n ≡ length word / 2
  pub is : new ≡ hex_bytes word ++ drop n old
  pub counts : IsPrefixLen n new
