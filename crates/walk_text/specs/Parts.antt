-- The text of a plan that arrays hold. Definitions only.
use Rattle.std.specs.Prelude.{List, [], ◌++◌, ℕ, zero, suc}
use Rattle.text.specs.Decimal.{decimal}
use Rattle.points.specs.Arrays.{numerator_at, denominator_at}
use Rattle.walk_text.specs.Text.{space, slash, newline}

unfoldable pub fraction : ℕ → ℕ → List ℕ
fraction x d = space ++ decimal x ++ slash ++ decimal d

-- the fractions of index n on the first s axes
unfoldable pub fractions_at : ℕ → List ℕ → List ℕ → ℕ → ℕ → List ℕ
fractions_at family bases vs n zero = []
fractions_at family bases vs n (suc s) =
    fractions_at family bases vs n s ++ fraction (numerator_at family bases vs n s) (denominator_at family bases s)

unfoldable pub line_at : ℕ → ℕ → List ℕ → List ℕ → ℕ → List ℕ
line_at family axes bases vs n = decimal n ++ fractions_at family bases vs n axes ++ newline

-- the lines of the indexes 0 to k - 1
unfoldable pub lines_at : ℕ → ℕ → List ℕ → List ℕ → ℕ → List ℕ
lines_at family axes bases vs zero = []
lines_at family axes bases vs (suc k) = lines_at family axes bases vs k ++ line_at family axes bases vs k
