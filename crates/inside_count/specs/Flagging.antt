-- The walk over a run: a flag for each point, and what a cut leaves below it. Definitions only.
use Rattle.std.specs.Prelude.{Bool, List, ℕ, ◌+◌, ◌-◌, ◌*◌, ◌/◌}
use Rattle.numbers.specs.Count.{bit}
use Rattle.numbers.specs.Listed.{Begins}

-- the flag of i: 1 where the test holds, else 0
abbrev pub flag_of : (ℕ → Bool) → ℕ → ℕ
flag_of p i = bit (p i)

-- the first m entries of l are the flags
abbrev pub Flags : (ℕ → Bool) → ℕ → List ℕ → Type 0
Flags p m l = Begins (flag_of p) m l

-- the least numerator over d that is not below the cut u / q
unfoldable pub cut_limit : ℕ → ℕ → ℕ → ℕ
cut_limit u q d = (u * d + (q - 1)) / q
