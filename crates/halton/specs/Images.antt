-- The images of a base's digits: in a table that is lent, and by that table or else by the family. Definitions only.
use Rattle.std.specs.Prelude.{◌≡◌, cond, List, ℕ, ◌<◌, ltb, length, get_or}
use Rattle.permutation.specs.Families.{image_of}

-- what a table of images says of a digit
abbrev pub image_in : List ℕ → ℕ → ℕ
image_in l d = get_or l d 0

-- by the table, where it has all digits of base b; else what the family does to a digit
unfoldable pub image_by : ℕ → ℕ → List ℕ → ℕ → ℕ
image_by family b l = cond (ltb (length l) b) (image_of family b) (image_in l)

-- σ takes digits of base b to digits of base b, and 0 to 0
pub record DigitMap (b : ℕ) (σ : ℕ → ℕ) : Type 0 where
  pub below : (d : ℕ) → d < b → σ d < b
  pub zero_first : σ 0 ≡ 0
