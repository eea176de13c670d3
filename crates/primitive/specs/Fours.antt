-- A combination of twelve words by three tables, each with the combinations of four of the words. Definitions only.
use Rattle.std.specs.Prelude.{◌≡◌, List, ℕ, ◌*◌, ◌/◌, ◌%◌, ◌^◌, ◌≤◌, get_or, take, drop}
use Rattle.std.specs.Int.Bits.{bit_xor}
use Rattle.numbers.specs.Listed.{Begins}
use Rattle.binary.specs.Gf2.{combination}
use Rattle.binary.specs.Polynomial.{Degree}
use Rattle.binary.specs.Power.{power_of_x}

-- the sum of the tables' entries at the digits of g in base 16, the lowest digit for the first table
abbrev pub by_fours : List ℕ → List ℕ → List ℕ → ℕ → ℕ
by_fours low middle high g = bit_xor (bit_xor (get_or low (g % 16) 0) (get_or middle (g / 16 % 16) 0)) (get_or high (g / 256 % 16) 0)

-- the tables are those of the words' first, second and third four
pub record Fours (words low middle high : List ℕ) : Type 0 where
  pub first : Begins (combination (take 4 words)) 16 low
  pub second : Begins (combination (take 4 (drop 4 words))) 16 middle
  pub third : Begins (combination (take 4 (drop 8 words))) 16 high

-- p has degree d, from 1 to 12, and the tables give of each power of x modulo p its square
pub record Squaring (d p : ℕ) (low middle high : List ℕ) : Type 0 where
  pub least : 1 ≤ d
  pub most : d ≤ 12
  pub degree : Degree d p
  pub squared : (e : ℕ) → by_fours low middle high (power_of_x (2 ^ d) p e) ≡ power_of_x (2 ^ d) p (e * 2)
