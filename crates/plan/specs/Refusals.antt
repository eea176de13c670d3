-- When each of the numbers 1 and 3 to 10 is given, in the words of 01-scope.md: its condition holds, and nothing earlier in the order does,
-- since all fields before it are right. Number 2 (family) is never given, since family 3 is a Halton family (02's K5). Definitions only.
use Rattle.std.specs.Prelude.{◌≡◌, ◌⊎◌, List, [], ◌++◌, ℕ, ◌+◌, ◌-◌, ◌/◌, ◌%◌, ◌^◌, ◌≤◌, ◌<◌, length, get_or}
use Rattle.numbers.specs.Gcd.{Coprime}
use Rattle.binary.specs.Polynomial.{Degree, Primitive}
use Rattle.sobol.specs.Directions.{AllOddBelow}
use Rattle.bits.specs.Stream.{to_bits}
use Rattle.plan.specs.Plan.{Axis, no_axis, Plan, ValidBases, ValidAxes, OneToSix, HaltonFamily, Valid, header_bits, bases_bits, ms_bits, axes_bits, plan_bits}

-- The field that comes next, with what the fields before it say. In this order: family; number of axes of a plan of this family; base of a
-- plan of this family and number of axes, after these bases; degree, in a Sobol plan of this number of axes, after these axes; coefficients,
-- after this degree too; and an m, after this polynomial of this degree and these m's too.
pub data Field : Type 0 where
  family_field : Field
  axes_field : ℕ → Field
  base_field : ℕ → ℕ → List ℕ → Field
  degree_field : ℕ → List Axis → Field
  coefficients_field : ℕ → List Axis → ℕ → Field
  m_field : ℕ → List Axis → ℕ → ℕ → List ℕ → Field

-- how many bits it has
unfoldable pub width : Field → ℕ
width family_field = 2
width (axes_field family) = 3
width (base_field family s bases) = 8
width (degree_field s axes) = 4
width (coefficients_field s axes d) = d - 1
width (m_field s axes d p ms) = length ms + 1

-- no axis of the list has the polynomial p
abbrev pub NotAmong : ℕ → List Axis → Type 0
NotAmong p axes = (j : ℕ) → j < length axes → p ≡ (get_or axes j no_axis).polynomial → ⊥

-- a polynomial of degree d with constant term 1, primitive from degree 1 on
pub record ValidPolynomial (d p : ℕ) : Type 0 where
  pub degree_high : d ≤ 12
  pub degree : Degree d p
  pub constant : p % 2 ≡ 1
  pub primitive : 1 ≤ d → Primitive d p

-- the bits before a field, all of whose fields are right
unfoldable pub Before : Field → List ℕ → Type 0
Before family_field l = l ≡ []
Before (axes_field family) l = (family < 4) × (l ≡ to_bits 2 family)
Before (base_field family s bases) l =
    HaltonFamily family × OneToSix s × (length bases < s) × ValidBases bases × (l ≡ header_bits family s ++ bases_bits bases)
Before (degree_field s axes) l = OneToSix s × (length axes < s) × ValidAxes axes × (l ≡ header_bits 2 s ++ axes_bits axes)
Before (coefficients_field s axes d) l =
    OneToSix s × (length axes < s) × ValidAxes axes × (d ≤ 12) × (l ≡ header_bits 2 s ++ axes_bits axes ++ to_bits 4 d)
Before (m_field s axes d p ms) l =
    OneToSix s × (length axes < s) × ValidAxes axes × ValidPolynomial d p × NotAmong p axes × (length ms < d) × AllOddBelow (length ms) ms
    × (l ≡ header_bits 2 s ++ axes_bits axes ++ to_bits 4 d ++ to_bits (d - 1) (p / 2) ++ ms_bits 1 ms)

-- the refusal with this number is due to a plan of these bits
pub data Refusal (bits : List ℕ) : ℕ → Type 0 where
  -- 1, short: the bytes end before a field's last bit
  short : (f : Field) (l rest : List ℕ) → Before f l → length rest < width f → bits ≡ l ++ rest → Refusal bits 1
  -- 3, axes: 0 or 7
  bad_axes : (family s : ℕ) (l rest : List ℕ) → Before (axes_field family) l → (s ≡ 0) ⊎ (s ≡ 7) → bits ≡ l ++ to_bits 3 s ++ rest → Refusal bits 3
  -- 4, base: base 1
  bad_base : (family s : ℕ) (bases l rest : List ℕ) → Before (base_field family s bases) l → bits ≡ l ++ to_bits 8 0 ++ rest → Refusal bits 4
  -- 5, shared factor: base not coprime to an earlier one
  shared_factor : (family s b j : ℕ) (bases l rest : List ℕ) → Before (base_field family s bases) l → 2 ≤ b → b ≤ 256 → j < length bases
      → (Coprime b (get_or bases j 0) → ⊥) → bits ≡ l ++ to_bits 8 (b - 1) ++ rest → Refusal bits 5
  -- 6, degree: above 12
  high_degree : (s d : ℕ) (axes : List Axis) (l rest : List ℕ) → Before (degree_field s axes) l → 12 < d → d < 16 → bits ≡ l ++ to_bits 4 d ++ rest → Refusal bits 6
  -- 7, not primitive: polynomial of degree 1 or more isn't primitive
  non_primitive : (s d p : ℕ) (axes : List Axis) (l rest : List ℕ) → Before (coefficients_field s axes d) l → 1 ≤ d → Degree d p → p % 2 ≡ 1
      → (Primitive d p → ⊥) → bits ≡ l ++ to_bits (d - 1) (p / 2) ++ rest → Refusal bits 7
  -- 8, even: a given m_i is even
  even_m : (s d p m : ℕ) (axes : List Axis) (ms l rest : List ℕ) → Before (m_field s axes d p ms) l → m < 2 ^ (length ms + 1) → m % 2 ≡ 0
      → bits ≡ l ++ to_bits (length ms + 1) m ++ rest → Refusal bits 8
  -- 9, twin: polynomial of an earlier axis again
  repeated : (s d p j : ℕ) (axes : List Axis) (l rest : List ℕ) → Before (coefficients_field s axes d) l → ValidPolynomial d p → j < length axes
      → p ≡ (get_or axes j no_axis).polynomial → bits ≡ l ++ to_bits (d - 1) (p / 2) ++ rest → Refusal bits 9
  -- 10, tail: a filling bit is 1, or a byte follows
  bad_ending : (p : Plan) (rest : List ℕ) → Valid p → ((i : ℕ) × (i < length rest) × (get_or rest i 0 ≡ 1)) ⊎ (8 ≤ length rest)
      → bits ≡ plan_bits p ++ rest → Refusal bits 10
