-- An axis of the arrays fits exactly where it is an axis of a valid plan. Assumes nothing.
use mathlib.Core.Path.{◌≡◌, sym, ap, ◌∙◌}
use mathlib.Core.List.{List}
use mathlib.Core.Logic.{⊎_elim}
use Prim.Native.Nat.{ℕ, suc, ◌+◌, ◌-◌, ◌*◌, ◌/◌, ◌%◌, ◌^◌, ◌≤◌, ◌<◌}
use native.Mathlib.Omega.{arith}
use native.Mathlib.Nat.{le_refl}
use lib.Pow.{pow_mono, shl-shr, shr_lt}
use lib.ListN.{length, get_or}
use Rattle.numbers.specs.Digits.{digit_count}
use Rattle.numbers.specs.Listed.{listed}
use Rattle.numbers.proofs.Cases.{lt_or_ge}
use Rattle.numbers.proofs.DigitLaws.{digit_count_le_iff}
use Rattle.numbers.proofs.ListedLaws.{listed_length, listed_at}
use Rattle.binary.specs.Polynomial.{Degree, degree_of}
use Rattle.binary.proofs.DegreeLaws.{degree_of_lem}
use Rattle.sobol.specs.Directions.{directions, AllOddBelow}
use Rattle.plan.specs.Plan.{Axis, ValidAxis}
use Rattle.points.specs.Point.{axis_directions}
use Rattle.points.proofs.PointLaws.{axis_directions_lt}
use Rattle.fitting.specs.Fits.{FitWord, FitAxis}
use Rattle.fitting.proofs.RuleLaws.{m_of, directions_ruled, directions_first, directions_are}

-- ---- degrees

pub degree_is : (p : ℕ) → 1 ≤ p → Degree (degree_of p) p
unfolding degree_of
degree_is p h =
    let c = digit_count 2 p in
    let high : p < 2 ^ c = (digit_count_le_iff 2 p c (omega arith)).0 (le_refl c) in
    let some : 1 ≤ c = ⊎_elim (λ q. absurd (omega (arith, (digit_count_le_iff 2 p 0 (omega arith)).0 (omega arith)))) (λ q. q) (lt_or_ge c 1) in
    let low : 2 ^ (c - 1) ≤ p =
    ⊎_elim (λ q. absurd (omega (arith, (digit_count_le_iff 2 p (c - 1) (omega arith)).1 q))) (λ q. q) (lt_or_ge p (2 ^ (c - 1))) in
    let e : suc (c - 1) ≡ c = omega arith in
    record { low = low; high = rw e high }

pub degree_low : (p : ℕ) → p < 2 ^ 13 → degree_of p ≤ 12
unfolding degree_of
degree_low p h = omega (arith, (digit_count_le_iff 2 p 13 (omega arith)).1 h)

-- ---- from the arrays to the plan

-- the axis of a polynomial and direction numbers
abbrev pub axis_of : ℕ → List ℕ → Axis
axis_of p v = record { polynomial = p; ms = listed (m_of v) (degree_of p) }

module _ {p : ℕ} {v : List ℕ} (f : FitAxis p v) where
  m_length : length (listed (m_of v) (degree_of p)) ≡ degree_of p
  m_length = listed_length (m_of v) (degree_of p)

  pub valid_axis : ValidAxis (axis_of p v)
  unfolding AllOddBelow m_of
  valid_axis =
      record {
        degree_high = omega (arith, m_length, degree_low p f.polynomial.high);
        degree = rw m_length (degree_is p (omega (arith, f.polynomial.constant)));
        constant = f.polynomial.constant;
        primitive = rw m_length f.polynomial.primitive;
        given = λ j h.
            let l : j < degree_of p = omega (arith, m_length) in
            let w = f.given.each j l in
            let e : suc j + (31 - j) ≡ 32 = omega (arith, degree_low p f.polynomial.high) in
            rw (listed_at (m_of v) (degree_of p) j l) (record { odd = w.odd; below = shr_lt (suc j) (31 - j) (rw e w.low) });
      }

  pub axis_directions_are : length v ≡ 32 → v ≡ axis_directions (axis_of p v)
  axis_directions_are e =
      directions_are (degree_of p) p v (degree_low p f.polynomial.high) f.given.each f.rule.each e
      ∙ ap (λ (d : ℕ). directions d p (listed (m_of v) (degree_of p))) (sym m_length)

-- ---- from the plan to the arrays

module _ (x : Axis) (v : ValidAxis x) where
  d_is : degree_of x.polynomial ≡ length x.ms
  d_is = degree_of_lem v.degree

  first_fit : (j : ℕ) → j < length x.ms → FitWord j (get_or (axis_directions x) j 0)
  unfolding AllOddBelow
  first_fit j h =
      let e = directions_first (length x.ms) x.polynomial x.ms j v.degree_high h in
      let q : get_or (axis_directions x) j 0 / 2 ^ (31 - j) ≡ get_or x.ms j 0 = ap (λ (y : ℕ). y / 2 ^ (31 - j)) e ∙ shl-shr (get_or x.ms j 0) (31 - j) in
      record {
        odd = ap (λ (y : ℕ). y % 2) q ∙ (v.given j h).odd;
        low = axis_directions_lt x v j;
        back = ap (λ (y : ℕ). y * 2 ^ (31 - j)) q ∙ sym e;
      }

  pub axis_fit : FitAxis x.polynomial (axis_directions x)
  axis_fit =
      record {
        polynomial = record {
          high = omega (arith, v.degree.high, pow_mono {i = suc (length x.ms)} {j = 13} (omega (arith, v.degree_high)));
          constant = v.constant;
          primitive = rw d_is v.primitive;
        };
        given = rw d_is (record { each = first_fit });
        rule = rw d_is (record { each = directions_ruled (length x.ms) x.polynomial x.ms });
      }
