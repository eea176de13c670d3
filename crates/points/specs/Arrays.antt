-- A plan as arrays: the family's number, the bases, the polynomials, and 32 direction numbers for each axis, 0 in the entries that are not
-- used; and the points by these arrays. Definitions only.
use Rattle.std.specs.Prelude.{◌≡◌, Bool, true, false, List, [], ◌∷◌, ◌++◌, ℕ, ◌+◌, ◌*◌, ◌^◌, ◌≤◌, ◌<◌, eqb, length, take, drop, get_or, replicate}
use Rattle.numbers.specs.Depth.{denominator}
use Rattle.numbers.specs.Listed.{listed, padded}
use Rattle.permutation.specs.Families.{image_of}
use Rattle.halton.specs.Axis.{numerator}
use Rattle.sobol.specs.Stepping.{stepped}
use Rattle.plan.specs.Plan.{Axis, Plan, halton, sobol}
use Rattle.plan.specs.Answer.{polynomials_of}
use Rattle.points.specs.Point.{axis_directions}

-- ---- a plan's arrays

unfoldable pub family_of : Plan → ℕ
family_of (halton family bases) = family
family_of (sobol axes) = 2

unfoldable pub bases_array : Plan → List ℕ
bases_array (halton family bases) = padded 6 bases
bases_array (sobol axes) = replicate 6 0

unfoldable pub polynomials_array : Plan → List ℕ
polynomials_array (halton family bases) = replicate 6 0
polynomials_array (sobol axes) = padded 6 (polynomials_of axes)

-- the direction numbers of each axis, one axis after another
unfoldable pub directions_in : List Axis → List ℕ
directions_in [] = []
directions_in (x ∷ axes) = axis_directions x ++ directions_in axes

unfoldable pub directions_array : Plan → List ℕ
directions_array (halton family bases) = replicate 192 0
directions_array (sobol axes) = padded 192 (directions_in axes)

-- ---- points by arrays

-- the direction numbers of axis i
abbrev pub directions_at : List ℕ → ℕ → List ℕ
directions_at vs i = take 32 (drop (32 * i) vs)

unfoldable pub numerator_by : Bool → ℕ → List ℕ → List ℕ → ℕ → ℕ → ℕ
numerator_by true family bases vs n i = stepped (directions_at vs i) n
numerator_by false family bases vs n i = numerator (image_of family (get_or bases i 0)) (get_or bases i 0) n

-- the numerator of index n on axis i: family 2 is Sobol's
unfoldable pub numerator_at : ℕ → List ℕ → List ℕ → ℕ → ℕ → ℕ
numerator_at family bases vs n i = numerator_by (eqb family 2) family bases vs n i

-- the numerator t places after index n on axis i
unfoldable pub numerator_from : ℕ → List ℕ → List ℕ → ℕ → ℕ → ℕ → ℕ
numerator_from family bases vs n i t = numerator_at family bases vs (n + t) i

-- an index for each axis, out of a list
abbrev pub of_axis : List ℕ → ℕ → ℕ
of_axis ns i = get_or ns i 0

-- the numerator t places after its own index on axis i
unfoldable pub numerators_from : ℕ → List ℕ → List ℕ → (ℕ → ℕ) → ℕ → ℕ → ℕ
numerators_from family bases vs n i t = numerator_from family bases vs (n i) i t

-- the point of an index for each axis, 0 on the axes that the plan lacks
unfoldable pub point_at : ℕ → ℕ → List ℕ → List ℕ → (ℕ → ℕ) → List ℕ
point_at family axes bases vs n = padded 6 (listed (λ i. numerator_at family bases vs (n i) i) axes)

unfoldable pub denominator_by : Bool → List ℕ → ℕ → ℕ
denominator_by true bases i = 2 ^ 32
denominator_by false bases i = denominator (get_or bases i 0)

unfoldable pub denominator_at : ℕ → List ℕ → ℕ → ℕ
denominator_at family bases i = denominator_by (eqb family 2) bases i

-- what the functions on one axis ask of the bases: axis i has one, from 2 to 256 in a Halton plan
pub record BaseAt (family : ℕ) (bases : List ℕ) (i : ℕ) : Type 0 where
  pub reach : i < length bases
  pub low : (family ≡ 2 → ⊥) → 2 ≤ get_or bases i 0
  pub high : (family ≡ 2 → ⊥) → get_or bases i 0 ≤ 256

-- and of both arrays: axis i has its 32 direction numbers too, below 2^32
pub record AxisAt (family : ℕ) (bases vs : List ℕ) (i : ℕ) : Type 0 where
  pub base : BaseAt family bases i
  pub reach : 32 * i + 32 ≤ length vs
  pub directions_low : (j : ℕ) → get_or vs j 0 < 2 ^ 32

-- what the functions on arrays ask: the arrays' lengths, bases from 2 to 256 in a Halton plan, direction numbers below 2^32
pub record Arrays (family axes : ℕ) (bases vs : List ℕ) : Type 0 where
  pub few : axes ≤ 6
  pub bases_long : length bases ≡ 6
  pub directions_long : length vs ≡ 192
  pub base_low : (i : ℕ) → i < axes → (family ≡ 2 → ⊥) → 2 ≤ get_or bases i 0
  pub base_high : (i : ℕ) → i < axes → (family ≡ 2 → ⊥) → get_or bases i 0 ≤ 256
  pub directions_low : (j : ℕ) → get_or vs j 0 < 2 ^ 32

-- and of the indexes, one for each axis: k places after each is at most 2^32
pub record Within (ns : List ℕ) (k : ℕ) : Type 0 where
  pub long : length ns ≡ 6
  pub at : (i : ℕ) → get_or ns i 0 + k ≤ 2 ^ 32
