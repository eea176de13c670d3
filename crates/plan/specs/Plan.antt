-- Plans, which of them are valid, and how each is spelled in bytes: the published rules, place by place (01-scope.md, "Points" and "Plan
-- bytes"). Definitions only.
use Rattle.std.specs.Prelude.{◌≡◌, List, [], ◌∷◌, ◌++◌, ℕ, ◌+◌, ◌-◌, ◌/◌, ◌%◌, ◌≤◌, ◌<◌, length, get_or}
use Rattle.numbers.specs.Gcd.{Coprime}
use Rattle.binary.specs.Polynomial.{Degree, Primitive}
use Rattle.sobol.specs.Directions.{AllOddBelow}
use Rattle.bits.specs.Stream.{to_bits, packed}

-- A Sobol axis: its polynomial, as a number (that of degree 0 is 1), and its given m_1, m_2 and so on, as many as the degree.
pub record Axis : Type 0 where
  pub polynomial : ℕ
  pub ms : List ℕ

abbrev pub no_axis : Axis
no_axis = record { polynomial = 0; ms = [] }

-- Halton plans with their family and bases, and Sobol plans with their axes.
pub data Plan : Type 0 where
  halton : ℕ → List ℕ → Plan
  sobol : List Axis → Plan

-- ---- the rules

-- each base from 2 to 256, and any two of them coprime
pub record ValidBases (bases : List ℕ) : Type 0 where
  pub low : (i : ℕ) → i < length bases → 2 ≤ get_or bases i 0
  pub high : (i : ℕ) → i < length bases → get_or bases i 0 ≤ 256
  pub coprime : (i j : ℕ) → j < i → i < length bases → Coprime (get_or bases i 0) (get_or bases j 0)

-- The degree is at most 12; the polynomial has that degree and the constant term 1, and from degree 1 on is primitive; each given m_i is odd
-- and below 2^i.
pub record ValidAxis (x : Axis) : Type 0 where
  pub degree_high : length x.ms ≤ 12
  pub degree : Degree (length x.ms) x.polynomial
  pub constant : x.polynomial % 2 ≡ 1
  pub primitive : 1 ≤ length x.ms → Primitive (length x.ms) x.polynomial
  pub given : AllOddBelow (length x.ms) x.ms

-- no two axes have the same polynomial, degree 0 included
pub record ValidAxes (axes : List Axis) : Type 0 where
  pub valid : (i : ℕ) → i < length axes → ValidAxis (get_or axes i no_axis)
  pub distinct : (i j : ℕ) → j < i → i < length axes → (get_or axes i no_axis).polynomial ≡ (get_or axes j no_axis).polynomial → ⊥

-- one to six axes
abbrev pub OneToSix : ℕ → Type 0
OneToSix s = (1 ≤ s) × (s ≤ 6)

-- the Halton families: 0 plain, 1 with Faure's permutations, 3 with those of Kocis and Whiten; family 2 is Sobol's
abbrev pub HaltonFamily : ℕ → Type 0
HaltonFamily family = (family < 4) × (family ≡ 2 → ⊥)

unfoldable pub Valid : Plan → Type 0
Valid (halton family bases) = HaltonFamily family × OneToSix (length bases) × ValidBases bases
Valid (sobol axes) = OneToSix (length axes) × ValidAxes axes

-- ---- the spelling

-- family in 2 bits, number of axes in 3
abbrev pub header_bits : ℕ → ℕ → List ℕ
header_bits family axes = to_bits 2 family ++ to_bits 3 axes

-- base minus 1, in 8 bits
unfoldable pub bases_bits : List ℕ → List ℕ
bases_bits [] = []
bases_bits (b ∷ bases) = to_bits 8 (b - 1) ++ bases_bits bases

-- m_i in i bits, the first being m_i
unfoldable pub ms_bits : ℕ → List ℕ → List ℕ
ms_bits i [] = []
ms_bits i (m ∷ ms) = to_bits i m ++ ms_bits (i + 1) ms

-- the degree d in 4 bits, the coefficients a_1 to a_(d-1), which are the polynomial's digits d - 1 to 1, and the m's
unfoldable pub axis_bits : Axis → List ℕ
axis_bits x = to_bits 4 (length x.ms) ++ to_bits (length x.ms - 1) (x.polynomial / 2) ++ ms_bits 1 x.ms

unfoldable pub axes_bits : List Axis → List ℕ
axes_bits [] = []
axes_bits (x ∷ axes) = axis_bits x ++ axes_bits axes

unfoldable pub plan_bits : Plan → List ℕ
plan_bits (halton family bases) = header_bits family (length bases) ++ bases_bits bases
plan_bits (sobol axes) = header_bits 2 (length axes) ++ axes_bits axes

-- the plan's bytes, zero bits filling the last
unfoldable pub spell : Plan → List ℕ
spell p = packed (plan_bits p)
