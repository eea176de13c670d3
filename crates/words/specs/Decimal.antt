-- The number that a word spells in decimal. Definitions only.
use Rattle.std.specs.Prelude.{Bool, true, false, Result, Ok, Err, List, [], ◌∷◌, ℕ, ◌+◌, ◌*◌, ◌-◌, ◌^◌, ltb}
use Rattle.words.specs.declared.NumberError.{NumberError}
use Rattle.words.specs.declared.NumberError.TheVariants.{NotDecimal, TooLarge}

-- every byte is a digit, 0 to 9
unfoldable pub all_digits : List ℕ → Bool
all_digits [] = true
all_digits (b ∷ bs) = digit_then (ltb b 48) (ltb 57 b) (all_digits bs)
  where
    digit_then : Bool → Bool → Bool → Bool
    digit_then true _ _ = false
    digit_then false true _ = false
    digit_then false false rest = rest

-- the digits' value, those before them having the value n
unfoldable pub value_from : ℕ → List ℕ → ℕ
value_from n [] = n
value_from n (b ∷ bs) = value_from (n * 10 + (b - 48)) bs

-- a value that fits a word of 64 bits
unfoldable pub fitting : ℕ → Result ℕ NumberError
fitting n = go (ltb n (2 ^ 64))
  where
    go : Bool → Result ℕ NumberError
    go true = Ok n
    go false = Err TooLarge

-- one digit or more, and nothing else
unfoldable pub number_of : List ℕ → Result ℕ NumberError
number_of [] = Err NotDecimal
number_of (b ∷ bs) = go (all_digits (b ∷ bs))
  where
    go : Bool → Result ℕ NumberError
    go true = fitting (value_from 0 (b ∷ bs))
    go false = Err NotDecimal
