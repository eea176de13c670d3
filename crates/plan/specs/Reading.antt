-- Reading a plan, field by field: the order of 01-scope.md, "When a call is turned down". Each refusal is given by its number.
-- Definitions only.
use Rattle.std.specs.Prelude.{List, [], ◌∷◌, ◌++◌, Bool, true, false, not, ◌&&◌, ◌||◌, cond, ℕ, zero, suc, ◌+◌, ◌-◌, ◌*◌, ◌%◌, ◌^◌, ltb, leb, eqb, length, take, drop}
use Rattle.numbers.specs.Gcd.{gcd}
use Rattle.binary.specs.Polynomial.{is_primitive}
use Rattle.bits.specs.Stream.{of_bits, bits_of}
use Rattle.plan.specs.Plan.{Axis, Plan, halton, sobol}

-- what reading a part comes to: a refusal's number, or a value and the bits after it
pub data Step (A : Type 0) : Type 0 where
  refuse : ℕ → Step A
  got : A → List ℕ → Step A

module _ {A : Type 0} where
  -- refusal n where the test holds, else what follows
  unfoldable pub refuse_if : Bool → ℕ → Step A → Step A
  refuse_if true n s = refuse n
  refuse_if false n s = s

  -- the next w bits are a field: refusal 1 (short) where the bytes end before its last bit
  unfoldable pub field : ℕ → List ℕ → (ℕ → List ℕ → Step A) → Step A
  field w l rest = refuse_if (ltb (length l) w) 1 (rest (of_bits (take w l)) (drop w l))

  unfoldable pub and_then : {B : Type 0} → Step A → (A → List ℕ → Step B) → Step B
  and_then (refuse n) rest = refuse n
  and_then (got a l) rest = rest a l

-- ---- Halton axes

-- b is not coprime to one of the earlier bases
unfoldable pub shares_factor : ℕ → List ℕ → Bool
shares_factor b [] = false
shares_factor b (a ∷ earlier) = not (eqb (gcd b a) 1) || shares_factor b earlier

-- k more bases: 4 (base) for base 1, then 5 (shared factor)
unfoldable pub read_bases : ℕ → List ℕ → List ℕ → Step (List ℕ)
read_bases zero earlier l = got earlier l
read_bases (suc k) earlier l =
    field 8 l λ v r. refuse_if (eqb v 0) 4 (refuse_if (shares_factor (v + 1) earlier) 5 (read_bases k (earlier ++ (v + 1) ∷ []) r))

-- ---- Sobol axes

-- the polynomial of degree d with the coefficients a_1 to a_(d-1) as the digits of a
unfoldable pub polynomial_of : ℕ → ℕ → ℕ
polynomial_of zero a = 1
polynomial_of (suc d) a = 2 ^ suc d + 2 * a + 1

-- of degree 1 or more, and not primitive
abbrev pub not_primitive : ℕ → ℕ → Bool
not_primitive d p = not (eqb d 0) && not (is_primitive d p)

-- an earlier axis has the polynomial p
unfoldable pub is_repeated : ℕ → List Axis → Bool
is_repeated p [] = false
is_repeated p (x ∷ earlier) = eqb p x.polynomial || is_repeated p earlier

-- k more m's, the next in i bits: 8 (even)
unfoldable pub read_ms : ℕ → ℕ → List ℕ → List ℕ → Step (List ℕ)
read_ms zero i earlier l = got earlier l
read_ms (suc k) i earlier l = field i l λ m r. refuse_if (eqb (m % 2) 0) 8 (read_ms k (i + 1) (earlier ++ m ∷ []) r)

-- an axis: 6 (degree) after the degree; 7 (not primitive), then 9 (twin), after the coefficients; then its m's
unfoldable pub read_axis : List Axis → List ℕ → Step Axis
read_axis earlier l =
    field 4 l λ d r. refuse_if (ltb 12 d) 6
    (field (d - 1) r λ a s. refuse_if (not_primitive d (polynomial_of d a)) 7 (refuse_if (is_repeated (polynomial_of d a) earlier) 9
    (and_then (read_ms d 1 [] s) λ ms t. got (record { polynomial = polynomial_of d a; ms = ms }) t)))

-- k more axes
unfoldable pub read_axes : ℕ → List Axis → List ℕ → Step (List Axis)
read_axes zero earlier l = got earlier l
read_axes (suc k) earlier l = and_then (read_axis earlier l) λ x r. read_axes k (earlier ++ x ∷ []) r

-- ---- the whole

-- the axes of a plan, in a Sobol plan or not
unfoldable pub read_body : Bool → ℕ → ℕ → List ℕ → Step Plan
read_body true family s l = and_then (read_axes s [] l) λ axes r. got (sobol axes) r
read_body false family s l = and_then (read_bases s [] l) λ bases r. got (halton family bases) r

-- the family, any of 0 to 3, and 3 (axes) for 0 or 7 axes; 2 (family) is never given since K5
unfoldable pub read_fields : List ℕ → Step Plan
read_fields l =
    field 2 l λ family r. field 3 r λ s t. refuse_if (eqb s 0 || eqb s 7) 3 (read_body (eqb family 2) family s t)

pub data Reading : Type 0 where
  refused : ℕ → Reading
  accepted : Plan → Reading

-- a filling bit is 1, or a byte follows
abbrev pub bad_tail : List ℕ → Bool
bad_tail l = leb 8 (length l) || not (eqb (of_bits l) 0)

-- last comes 10 (tail)
unfoldable pub finish : Step Plan → Reading
finish (refuse n) = refused n
finish (got p l) = cond (bad_tail l) (refused 10) (accepted p)

unfoldable pub read_plan : List ℕ → Reading
read_plan bytes = finish (read_fields (bits_of bytes))
