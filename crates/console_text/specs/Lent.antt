-- What the console lends to a call. Definitions only.
use Rattle.std.specs.Prelude.{ℕ, List, replicate}

-- as many bytes or words as a line may ask for, each byte A5
abbrev pub lent_bytes : List ℕ
lent_bytes = replicate 4224 165

abbrev pub lent_words : List ℕ
lent_words = replicate 4224 11936128518282651045
