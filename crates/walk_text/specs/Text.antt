-- The text of the program `walk` (01-scope.md, "Reference points"), as bytes of ASCII. Definitions only.
use Rattle.std.specs.Prelude.{List, [], ◌∷◌, ◌++◌, ℕ, zero, suc, take}
use Rattle.text.specs.Decimal.{decimal}
use Rattle.plan.specs.Plan.{Plan}
use Rattle.plan.specs.Reading.{Reading, refused, accepted, read_plan}
use Rattle.points.specs.Point.{axis_count, numerator_of, denominator_of}

-- "axes "
abbrev pub axes_word : List ℕ
axes_word = 97 ∷ 120 ∷ 101 ∷ 115 ∷ 32 ∷ []

-- "refused "
abbrev pub refused_word : List ℕ
refused_word = 114 ∷ 101 ∷ 102 ∷ 117 ∷ 115 ∷ 101 ∷ 100 ∷ 32 ∷ []

abbrev pub space : List ℕ
space = 32 ∷ []

abbrev pub slash : List ℕ
slash = 47 ∷ []

abbrev pub newline : List ℕ
newline = 10 ∷ []

-- for each of the first s axes a space and numerator/denominator, not reduced
unfoldable pub fractions : Plan → ℕ → ℕ → List ℕ
fractions p n zero = []
fractions p n (suc s) = fractions p n s ++ space ++ decimal (numerator_of p n s) ++ slash ++ decimal (denominator_of p s)

-- the index, then its point
unfoldable pub line : Plan → ℕ → List ℕ
line p n = decimal n ++ fractions p n (axis_count p) ++ newline

-- the lines of the indexes 0 to k - 1
unfoldable pub lines : Plan → ℕ → List ℕ
lines p zero = []
lines p (suc k) = lines p k ++ line p k

-- a line `axes` with the number of axes, then four lines for indexes 0 to 3; of a refused plan one line, `refused` and the number
unfoldable pub text_of : Reading → List ℕ
text_of (refused n) = refused_word ++ decimal n ++ newline
text_of (accepted p) = axes_word ++ decimal (axis_count p) ++ newline ++ lines p 4

-- the first 72 bytes decide
unfoldable pub walk_text : List ℕ → List ℕ
walk_text input = text_of (read_plan (take 72 input))
