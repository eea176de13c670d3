-- What is wrong with a plan that arrays hold: the first field at fault, in the order of a reading (01-scope.md, "When a call is turned
-- down"), all before it being right. Definitions only.
use Rattle.std.specs.Prelude.{◌≡◌, List, Option, Some, None, Result, Ok, Err, ℕ, ◌+◌, ◌*◌, ◌%◌, ◌^◌, ◌≤◌, ◌<◌, take, get_or}
use Rattle.numbers.specs.Gcd.{Coprime}
use Rattle.binary.specs.Polynomial.{degree_of}
use Rattle.sobol.specs.Directions.{OddBelow}
use Rattle.plan.specs.Plan.{ValidBases, ValidAxes, OneToSix, HaltonFamily}
use Rattle.plan.specs.Answer.{axes_of}
use Rattle.plan.specs.declared.fields.PlanFields.{PlanFields}
use Rattle.fitting.specs.Fits.{FitPolynomial}
use Rattle.plan_check.specs.declared.Fault.{Fault}

-- a number of a refusal; the axis and the place, from 1; the value that is wrong, and the one that it meets
abbrev pub fault_at : ℕ → ℕ → ℕ → ℕ → ℕ → Fault
fault_at code axis place got other = record { code = code; axis = axis; place = place; got = got; other = other }

abbrev pub no_fault : Fault
no_fault = fault_at 0 0 0 0 0

-- of the first n places, r is the first that is not right; n where each is
pub record FirstNot (Right : ℕ → Type 0) (n r : ℕ) : Type 0 where
  pub within : r ≤ n
  pub before : (j : ℕ) → j < r → Right j
  pub here : r < n → Right r → ⊥

-- the same where the first is an option
abbrev pub FirstWrong : (ℕ → Type 0) → ℕ → Option ℕ → Type 0
FirstWrong Right n None = FirstNot Right n n
FirstWrong Right n (Some r) = (r < n) × FirstNot Right n r

-- what is found, as a result: no fault, or one with a number
abbrev pub Checked : (Fault → Type 0) → Result (Unit {0}) Fault → Type 0
Checked F (Ok u) = F no_fault
Checked F (Err f) = F f × (f.code ≡ 0 → ⊥)

-- ---- Halton plans

-- base j has no factor in common with b
unfoldable pub CoprimeAt : ℕ → List ℕ → ℕ → Type 0
CoprimeAt b bases j = Coprime b (get_or bases j 0)

-- n bases: 4 (base) for one that is not 2 to 256, then 5 (shared factor) with the first that shares one
pub data BasesFound (bases : List ℕ) (n : ℕ) : Fault → Type 0 where
  sound : ValidBases (take n bases) → BasesFound bases n no_fault
  outside : (i : ℕ) → i < n → ValidBases (take i bases) → (2 ≤ get_or bases i 0 → get_or bases i 0 ≤ 256 → ⊥)
      → BasesFound bases n (fault_at 4 (i + 1) 0 (get_or bases i 0) 0)
  shared : (i j : ℕ) → i < n → ValidBases (take i bases) → 2 ≤ get_or bases i 0 → get_or bases i 0 ≤ 256
      → j < i → FirstNot (CoprimeAt (get_or bases i 0) bases) i j
      → BasesFound bases n (fault_at 5 (i + 1) (j + 1) (get_or bases i 0) (get_or bases j 0))

-- ---- Sobol plans

-- polynomial j is not that of place n
unfoldable pub NewAt : List ℕ → ℕ → ℕ → Type 0
NewAt ps n j = get_or ps n 0 ≡ get_or ps j 0 → ⊥

-- m_(j+1) of axis i is odd and below 2^(j+1)
unfoldable pub GivenAt : List ℕ → ℕ → ℕ → Type 0
GivenAt ms i j = OddBelow j (get_or ms (12 * i + j) 0)

-- a polynomial: 6 (degree) above 12, then 7 (not primitive)
pub data PolynomialFound (p : ℕ) : ℕ → Type 0 where
  sound : FitPolynomial p → PolynomialFound p 0
  high : 2 ^ 13 ≤ p → PolynomialFound p 6
  non_primitive : p < 2 ^ 13 → (FitPolynomial p → ⊥) → PolynomialFound p 7

-- axis i: its polynomial; 9 (twin) with the first axis that has the polynomial too; then the first m that is even, 8, or too large, 101
pub data AxisFound (ps ms : List ℕ) (i : ℕ) : Fault → Type 0 where
  sound : FitPolynomial (get_or ps i 0) → FirstNot (NewAt ps i) i i → FirstNot (GivenAt ms i) (degree_of (get_or ps i 0)) (degree_of (get_or ps i 0))
      → AxisFound ps ms i no_fault
  polynomial : (n : ℕ) → PolynomialFound (get_or ps i 0) n → (n ≡ 0 → ⊥) → AxisFound ps ms i (fault_at n (i + 1) 0 (get_or ps i 0) 0)
  twin : (j : ℕ) → FitPolynomial (get_or ps i 0) → j < i → FirstNot (NewAt ps i) i j
      → AxisFound ps ms i (fault_at 9 (i + 1) (j + 1) (get_or ps i 0) 0)
  even : (k : ℕ) → FitPolynomial (get_or ps i 0) → FirstNot (NewAt ps i) i i → k < degree_of (get_or ps i 0)
      → FirstNot (GivenAt ms i) (degree_of (get_or ps i 0)) k → get_or ms (12 * i + k) 0 % 2 ≡ 0
      → AxisFound ps ms i (fault_at 8 (i + 1) (k + 1) (get_or ms (12 * i + k) 0) 0)
  large : (k : ℕ) → FitPolynomial (get_or ps i 0) → FirstNot (NewAt ps i) i i → k < degree_of (get_or ps i 0)
      → FirstNot (GivenAt ms i) (degree_of (get_or ps i 0)) k → 2 ^ (k + 1) ≤ get_or ms (12 * i + k) 0
      → AxisFound ps ms i (fault_at 101 (i + 1) (k + 1) (get_or ms (12 * i + k) 0) 0)

-- n axes
pub data AxesFound (ps ms : List ℕ) (n : ℕ) : Fault → Type 0 where
  sound : ValidAxes (axes_of ps ms n) → AxesFound ps ms n no_fault
  axis : (i : ℕ) {f : Fault} → i < n → ValidAxes (axes_of ps ms i) → AxisFound ps ms i f → (f.code ≡ 0 → ⊥) → AxesFound ps ms n f

-- ---- the whole: 2 (family) for one above 3, which no bytes spell; 3 (axes); and then axis by axis

pub data Found (family s : ℕ) (bases ps ms : List ℕ) : Fault → Type 0 where
  bad_family : 3 < family → Found family s bases ps ms (fault_at 2 0 0 family 0)
  bad_count : family ≤ 3 → (OneToSix s → ⊥) → Found family s bases ps ms (fault_at 3 0 0 s 0)
  halton : {f : Fault} → HaltonFamily family → OneToSix s → BasesFound bases s f → Found family s bases ps ms f
  sobol : {f : Fault} → family ≡ 2 → OneToSix s → AxesFound ps ms s f → Found family s bases ps ms f

-- of the plan that lent fields hold
abbrev pub FieldsFound : PlanFields → Fault → Type 0
FieldsFound p = Found p.family p.axes p.bases.now p.polynomials.now p.ms.now
