-- What a genuine state is, field by field, with no second state, no bytes and no plan: the rules of the bases, of the polynomials and of the
-- direction numbers in place, zeros wherever the plan has nothing, the run, and the next point. Definitions only.
use Rattle.std.specs.Prelude.{◌≡◌, true, List, ℕ, zero, suc, ◌-◌, ◌*◌, ◌/◌, ◌%◌, ◌^◌, ◌≤◌, ◌<◌, length, get_or, take}
use Rattle.std.specs.Int.Bits.{bit_xor}
use Rattle.numbers.specs.Gcd.{Coprime}
use Rattle.binary.specs.Gf2.{times}
use Rattle.binary.specs.Polynomial.{degree_of, Primitive}
use Rattle.plan.specs.Plan.{OneToSix, HaltonFamily}
use Rattle.points.specs.Arrays.{directions_at, numerator_at}
use Rattle.points.specs.Run.{Run, run_of, index_at, in_range, has_starts}
use Rattle.state.specs.declared.Sampler.{Sampler}

-- 0 from place k on
abbrev pub ZeroFrom : ℕ → List ℕ → Type 0
ZeroFrom k l = (i : ℕ) → k ≤ i → get_or l i 0 ≡ 0

-- ---- Halton plans

-- b is coprime to the first n bases
pub record CoprimeTo (b : ℕ) (bases : List ℕ) (n : ℕ) : Type 0 where
  pub each : (j : ℕ) → j < n → Coprime b (get_or bases j 0)

-- the first n bases: from 2 to 256, and any two of them coprime
pub record FitBases (bases : List ℕ) (n : ℕ) : Type 0 where
  pub low : (i : ℕ) → i < n → 2 ≤ get_or bases i 0
  pub high : (i : ℕ) → i < n → get_or bases i 0 ≤ 256
  pub coprime : (i j : ℕ) → j < i → i < n → Coprime (get_or bases i 0) (get_or bases j 0)

pub record FitHalton (family axes : ℕ) (bases ps vs : List ℕ) : Type 0 where
  pub kind : HaltonFamily family
  pub bases_fit : FitBases bases axes
  pub bases_zero : ZeroFrom axes bases
  pub polynomials_zero : ZeroFrom 0 ps
  pub directions_zero : ZeroFrom 0 vs

-- ---- Sobol plans

-- The recurrence on the direction numbers themselves: v_(i+1-d) / 2^d xor those of v_i, v_(i-1), .. that the coefficients a_1, a_2, .. pick,
-- the given number of coefficients.
unfoldable pub v_terms : ℕ → ℕ → List ℕ → ℕ → ℕ → ℕ
v_terms d p v i zero = get_or v (i - d) 0 / 2 ^ d
v_terms d p v i (suc k) = bit_xor (v_terms d p v i k) (times (p / 2 ^ (d - suc k) % 2) (get_or v (i - suc k) 0))

-- v_(i+1) by the recurrence; at degree 0 it is 2^(31-i)
unfoldable pub v_rule : ℕ → ℕ → List ℕ → ℕ → ℕ
v_rule zero p v i = 2 ^ (31 - i)
v_rule (suc d) p v i = v_terms (suc d) p v i (suc d)

-- w is v_(j+1) of an odd m_(j+1) below 2^(j+1)
pub record FitWord (j w : ℕ) : Type 0 where
  pub odd : w / 2 ^ (31 - j) % 2 ≡ 1
  pub low : w < 2 ^ 32
  pub back : w / 2 ^ (31 - j) * 2 ^ (31 - j) ≡ w

-- the first n words are those of odd m's
pub record FitFirst (v : List ℕ) (n : ℕ) : Type 0 where
  pub each : (j : ℕ) → j < n → FitWord j (get_or v j 0)

-- the words from place d to place n - 1 keep to the recurrence
pub record FitRest (d p : ℕ) (v : List ℕ) (n : ℕ) : Type 0 where
  pub each : (j : ℕ) → d ≤ j → j < n → get_or v j 0 ≡ v_rule d p v j

-- of degree at most 12, with the constant term 1, and primitive from degree 1 on
pub record FitPolynomial (p : ℕ) : Type 0 where
  pub high : p < 2 ^ 13
  pub constant : p % 2 ≡ 1
  pub primitive : 1 ≤ degree_of p → Primitive (degree_of p) p

-- the polynomial p and the direction numbers v of an axis
pub record FitAxis (p : ℕ) (v : List ℕ) : Type 0 where
  pub polynomial : FitPolynomial p
  pub given : FitFirst v (degree_of p)
  pub rule : FitRest (degree_of p) p v 32

-- the polynomial at place n stands at none of the first i
pub record NewTo (ps : List ℕ) (n i : ℕ) : Type 0 where
  pub each : (j : ℕ) → j < i → get_or ps n 0 ≡ get_or ps j 0 → ⊥

-- the first n axes
pub record FitAxes (ps vs : List ℕ) (n : ℕ) : Type 0 where
  pub axis : (i : ℕ) → i < n → FitAxis (get_or ps i 0) (directions_at vs i)
  pub distinct : (i j : ℕ) → j < i → i < n → get_or ps i 0 ≡ get_or ps j 0 → ⊥

pub record FitSobol (axes : ℕ) (bases ps vs : List ℕ) : Type 0 where
  pub axes_fit : FitAxes ps vs axes
  pub bases_zero : ZeroFrom 0 bases
  pub polynomials_zero : ZeroFrom axes ps
  pub directions_zero : ZeroFrom (32 * axes) vs

-- family 2 is Sobol's
pub record FitPlan (family axes : ℕ) (bases ps vs : List ℕ) : Type 0 where
  pub if_halton : (family ≡ 2 → ⊥) → FitHalton family axes bases ps vs
  pub if_sobol : family ≡ 2 → FitSobol axes bases ps vs

-- ---- the run and its next point

-- an opening takes the first `axes` starts, zeros follow, and no more points are taken than there are
pub record FitRun (family axes : ℕ) (starts : List ℕ) (count taken : ℕ) : Type 0 where
  pub is_in_range : in_range (run_of (take axes starts) count) ≡ true
  pub has_starts_lem : has_starts family axes (take axes starts) ≡ true
  pub starts_zero : ZeroFrom axes starts
  pub not_past : taken ≤ count

-- x is the point of an index for each axis
pub record FitPoint (family axes : ℕ) (bases vs x : List ℕ) (n : ℕ → ℕ) : Type 0 where
  pub word : (i : ℕ) → i < axes → get_or x i 0 ≡ numerator_at family bases vs (n i) i
  pub zero_after : ZeroFrom axes x

-- x is the run's next point, and zeros where none is left
pub record FitNext (family axes : ℕ) (bases vs x : List ℕ) (r : Run) (taken : ℕ) : Type 0 where
  pub some : taken < r.count → FitPoint family axes bases vs x (λ i. index_at r i taken)
  pub none : r.count ≤ taken → ZeroFrom 0 x

-- ---- the whole

pub record Sized (s : Sampler) : Type 0 where
  pub bases : length s.bases ≡ 6
  pub polynomials : length s.polynomials ≡ 6
  pub directions : length s.directions ≡ 192
  pub starts : length s.starts ≡ 6
  pub numerators : length s.numerators ≡ 6

pub record Fits (s : Sampler) : Type 0 where
  pub sized : Sized s
  pub few : OneToSix s.axes
  pub run : FitRun s.family s.axes s.starts s.count s.taken
  pub plan : FitPlan s.family s.axes s.bases s.polynomials s.directions
  pub next : FitNext s.family s.axes s.bases s.directions s.numerators (run_of s.starts s.count) s.taken
