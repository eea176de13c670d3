-- The searches and the checks, place by place; and nothing is wrong exactly where the plan is valid. Assumes nothing.
use mathlib.Core.Path.{◌≡◌, refl, sym, ap, ◌∙◌}
use mathlib.Core.Bool.{Bool, true, true≢false}
use mathlib.Core.Logic.{◌↔◌, ⊎_elim}
use mathlib.Core.List.{List, [], ◌∷◌}
use Prim.Native.Nat.{ℕ, zero, suc, ◌+◌, ◌*◌, ◌/◌, ◌%◌, ◌^◌, ◌≤◌, ◌<◌}
use native.Mathlib.Omega.{arith}
use native.Mathlib.Nat.{one-le-pow, div-lt_iff_lt-mul}
use native.Mathlib.Numerals.{add-one}
use borrow.Author.Tests.{ne_eqb}
use lib.ListN.{length, get_or, take, drop, length-take, length-drop, get_or-append}
use lib.Seq.{take-suc, length-take-le, get_or-take, get_or-drop, get_or_at}
use lib.Pow.{pow_mono}
use Rattle.std.specs.Prelude.{Result, Ok, Err}
use Rattle.std.specs.Result.{is_ok}
use Rattle.numbers.specs.Gcd.{gcd}
use Rattle.numbers.proofs.Cases.{lt_or_ge, eq_or_ne}
use Rattle.numbers.proofs.GcdLaws.{gcd_one_iff_coprime}
use Rattle.binary.specs.Polynomial.{degree_of}
use Rattle.binary.proofs.DegreeLaws.{degree_of_lem}
use Rattle.binary.proofs.PolynomialLaws.{no_digit}
use Rattle.sobol.specs.Directions.{AllOddBelow}
use Rattle.plan.specs.Plan.{Axis, no_axis, halton, sobol, ValidBases, ValidAxis, ValidAxes, Valid}
use Rattle.plan.specs.Answer.{axis_at, axes_of, plan_by, plan_of}
use Rattle.plan.proofs.ValidLaws.{bases_snoc, axes_snoc}
use Rattle.plan.proofs.AnswerLaws.{length_axes}
use Rattle.fitting.specs.Fits.{FitPolynomial}
use Rattle.fitting.proofs.AxisLaws.{degree_is, degree_low}
use Rattle.plan_check.specs.Found.{fault_at, no_fault, FirstNot, CoprimeAt, BasesFound, NewAt, GivenAt, PolynomialFound, AxisFound, AxesFound, Found, Checked}
use Rattle.plan_check.specs.declared.Fault.{Fault}

-- ---- a search: the places before are right

abbrev pub Before : (ℕ → Type 0) → ℕ → Type 0
Before P i = (j : ℕ) → j < i → P j

pub none_before : (P : ℕ → Type 0) → Before P 0
none_before P j h = absurd (omega arith)

pub first_here : {P : ℕ → Type 0} {n : ℕ} (i : ℕ) → i < n → Before P i → (P i → ⊥) → FirstNot P n i
first_here i h b wrong = record { within = omega arith; before = b; here = λ l. wrong }

pub first_none : {P : ℕ → Type 0} {n : ℕ} → Before P n → FirstNot P n n
first_none b = record { within = omega arith; before = b; here = λ l p. omega arith }

module _ (b : ℕ) (bases : List ℕ) (j g : ℕ) (e : g ≡ gcd b (get_or bases j 0)) where
  pub gcd_coprime : g ≡ 1 → CoprimeAt b bases j
  unfolding CoprimeAt
  gcd_coprime f = (gcd_one_iff_coprime b (get_or bases j 0)).0 (sym e ∙ f)

  pub gcd_shared : (g ≡ 1 → ⊥) → CoprimeAt b bases j → ⊥
  unfolding CoprimeAt
  gcd_shared f c = f (e ∙ (gcd_one_iff_coprime b (get_or bases j 0)).1 c)

pub new_at : (ps : List ℕ) (n j : ℕ) → (get_or ps n 0 ≡ get_or ps j 0 → ⊥) → NewAt ps n j
unfolding NewAt
new_at ps n j h = h

pub twin_at : (ps : List ℕ) (n j : ℕ) → get_or ps n 0 ≡ get_or ps j 0 → NewAt ps n j → ⊥
unfolding NewAt
twin_at ps n j e h = h e

module _ (ms : List ℕ) (i k : ℕ) where
  pub given_odd : get_or ms (12 * i + k) 0 % 2 ≡ 1 → get_or ms (12 * i + k) 0 < 2 ^ suc k → GivenAt ms i k
  unfolding GivenAt
  given_odd o h = record { odd = o; below = h }

  pub given_parity : GivenAt ms i k → get_or ms (12 * i + k) 0 % 2 ≡ 1
  unfolding GivenAt
  given_parity g = g.odd

  pub given_low : GivenAt ms i k → get_or ms (12 * i + k) 0 < 2 ^ suc k
  unfolding GivenAt
  given_low g = g.below

  -- by the code's shift
  pub some_digit : GivenAt ms i k → (get_or ms (12 * i + k) 0 / 2 ^ (k + 1) ≡ 0 → ⊥) → ⊥
  some_digit g h = h (no_digit (k + 1) (get_or ms (12 * i + k) 0) (rw add-one (given_low g)))

pub no_digit_left : (m k : ℕ) → m / 2 ^ (k + 1) ≡ 0 → m < 2 ^ suc k
no_digit_left m k e =
    let h : m < 2 ^ (k + 1) = omega (arith, (div-lt_iff_lt-mul {k = 2 ^ (k + 1)} {x = m} {y = 1} (one-le-pow (k + 1) 2 (omega arith))).0 (omega arith)) in
    rw (add-one k) at h

-- ---- what is found, as a result

pub checked_by : {F G : Fault → Type 0} (r : Result (Unit {0}) Fault) → ((f : Fault) → F f → G f) → Checked F r → Checked G r
checked_by (Ok u) h p = h no_fault p
checked_by (Err f) h p = (h f p.0, p.1)

-- ---- bases

module _ (bases : List ℕ) (i : ℕ) (h : i < length bases) where
  pub base_more : ValidBases (take i bases) → 2 ≤ get_or bases i 0 → get_or bases i 0 ≤ 256 → Before (CoprimeAt (get_or bases i 0) bases) i
      → ValidBases (take (i + 1) bases)
  unfolding CoprimeAt
  base_more v low high f =
      let front = length-take-le i bases (omega arith) in
      rw (add-one, take-suc bases i 0)
      (bases_snoc v low high (λ j k. rw (get_or-take i bases j 0 (omega arith)) (f j (omega arith))))

bases_valid : (bases : List ℕ) (n : ℕ) {f : Fault} → n ≤ length bases → BasesFound bases n f → (f.code ≡ 0) ↔ ValidBases (take n bases)
unfolding CoprimeAt
bases_valid bases n h (BasesFound.sound v) = (λ e. v, λ w. refl)
bases_valid bases n h (BasesFound.outside i l v wrong) =
    let front = length-take-le n bases h in (
      λ e. absurd (omega arith),
      λ w. absurd (wrong (rw (get_or-take n bases i 0 l) at (w.low i (omega arith))) (rw (get_or-take n bases i 0 l) at (w.high i (omega arith)))),
    )
bases_valid bases n h (BasesFound.shared i j l v low high k f) =
    let front = length-take-le n bases h in (
      λ e. absurd (omega arith),
      λ w. absurd (f.here k (rw (get_or-take n bases i 0 l, get_or-take n bases j 0 (omega arith)) at (w.coprime i j k (omega arith)))),
    )

-- ---- axes

pub axes_at : (ps ms : List ℕ) (s j : ℕ) → j < s → get_or (axes_of ps ms s) j no_axis ≡ axis_at ps ms j
unfolding axes_of
axes_at ps ms zero j h = absurd (omega arith)
axes_at ps ms (suc s) j h =
    ⊎_elim (λ l. get_or-append (axes_of ps ms s) (axis_at ps ms s ∷ []) no_axis j (omega (arith, length_axes ps ms s)) ∙ axes_at ps ms s j l)
    (λ l. let e : j ≡ s = omega arith in rw e (get_or_at (axes_of ps ms s) (axis_at ps ms s) [] no_axis s (length_axes ps ms s)))
    (lt_or_ge j s)

module _ (ps ms : List ℕ) (i : ℕ) where
  -- the polynomial and the m's of a valid axis
  module _ (v : ValidAxis (axis_at ps ms i)) where
    d_is : degree_of (get_or ps i 0) ≡ length (axis_at ps ms i).ms
    d_is = degree_of_lem v.degree

    pub fit_polynomial : FitPolynomial (get_or ps i 0)
    fit_polynomial =
        record {
          high = omega (arith, v.degree.high, pow_mono {i = suc (length (axis_at ps ms i).ms)} {j = 13} (omega (arith, v.degree_high)));
          constant = v.constant;
          primitive = rw d_is v.primitive;
        }

    pub valid_given : (k : ℕ) → k < degree_of (get_or ps i 0) → GivenAt ms i k
    unfolding GivenAt AllOddBelow
    valid_given k h =
        let d = degree_of (get_or ps i 0) in
        rw (← get_or-drop (12 * i) ms k 0, ← get_or-take d (drop (12 * i) ms) k 0 h) (v.given k (omega (arith, d_is)))

  module _ (six : i < 6) (long : length ms ≡ 72) where
    axis_valid : FitPolynomial (get_or ps i 0) → Before (GivenAt ms i) (degree_of (get_or ps i 0)) → ValidAxis (axis_at ps ms i)
    unfolding GivenAt AllOddBelow
    axis_valid f g =
        let p = get_or ps i 0 in
        let d = degree_of p in
        let low = degree_low p f.high in
        let front : length (take d (drop (12 * i) ms)) ≡ d = length-take-le d (drop (12 * i) ms) (omega (arith, length-drop (12 * i) ms)) in
        record {
          degree_high = omega (arith, front, low);
          degree = rw front (degree_is p (omega (arith, f.constant)));
          constant = f.constant;
          primitive = rw front f.primitive;
          given = λ k h.
              let l : k < d = omega (arith, front) in
              rw (get_or-take d (drop (12 * i) ms) k 0 l, get_or-drop (12 * i) ms k 0) (g k l);
        }

    pub axis_more : {f : Fault} → ValidAxes (axes_of ps ms i) → AxisFound ps ms i f → f.code ≡ 0 → ValidAxes (axes_of ps ms (i + 1))
    unfolding axes_of NewAt
    axis_more v (AxisFound.sound p new g) e =
        rw add-one
        (axes_snoc v (axis_valid p g.before) (λ j h q.
        let l : j < i = omega (arith, length_axes ps ms i) in
        new.before j l (q ∙ ap (λ (x : Axis). x.polynomial) (axes_at ps ms i j l))))
    axis_more v (AxisFound.polynomial n p wrong) e = absurd (wrong e)
    axis_more v (AxisFound.twin j p h t) e = absurd (omega arith)
    axis_more v (AxisFound.even k p new h g z) e = absurd (omega arith)
    axis_more v (AxisFound.large k p new h g z) e = absurd (omega arith)

  polynomial_wrong : (n : ℕ) → PolynomialFound (get_or ps i 0) n → (n ≡ 0 → ⊥) → FitPolynomial (get_or ps i 0) → ⊥
  polynomial_wrong n (PolynomialFound.sound f) wrong p = wrong refl
  polynomial_wrong n (PolynomialFound.high h) wrong p = omega (arith, p.high)
  polynomial_wrong n (PolynomialFound.non_primitive h unfit) wrong p = unfit p

  axis_wrong : {f : Fault} → AxisFound ps ms i f → (f.code ≡ 0 → ⊥) → ValidAxis (axis_at ps ms i) → Before (NewAt ps i) i → ⊥
  axis_wrong (AxisFound.sound p new g) wrong v b = wrong refl
  axis_wrong (AxisFound.polynomial n p some) wrong v b = polynomial_wrong n p some (fit_polynomial v)
  axis_wrong (AxisFound.twin j p h t) wrong v b = t.here h (b j h)
  axis_wrong (AxisFound.even k p new h g z) wrong v b = g.here h (valid_given v k h)
  axis_wrong (AxisFound.large k p new h g z) wrong v b = g.here h (valid_given v k h)

-- axis i, with a polynomial that is right and has no twin before it, and the place of its first wrong m
module _ (ps ms : List ℕ) (i d : ℕ) (e : d ≡ degree_of (get_or ps i 0)) (f : FitPolynomial (get_or ps i 0)) (new : FirstNot (NewAt ps i) i i) where
  pub axis_sound : FirstNot (GivenAt ms i) d d → AxisFound ps ms i no_fault
  axis_sound g = AxisFound.sound f new (rw e at g)

  module _ (k : ℕ) (h : k < d) (g : FirstNot (GivenAt ms i) d k) where
    pub axis_even : get_or ms (12 * i + k) 0 % 2 ≡ 0 → AxisFound ps ms i (fault_at 8 (i + 1) (k + 1) (get_or ms (12 * i + k) 0) 0)
    axis_even z = AxisFound.even k f new (rw e at h) (rw e at g) z

    pub axis_large : get_or ms (12 * i + k) 0 % 2 ≡ 1 → AxisFound ps ms i (fault_at 101 (i + 1) (k + 1) (get_or ms (12 * i + k) 0) 0)
    axis_large o =
        let m = get_or ms (12 * i + k) 0 in
        let high : 2 ^ (k + 1) ≤ m =
        ⊎_elim (λ l. absurd (g.here h (given_odd ms i k o (rw (← add-one k) l)))) (λ l. l) (lt_or_ge m (2 ^ (k + 1))) in
        AxisFound.large k f new (rw e at h) (rw e at g) high

axes_valid : (ps ms : List ℕ) (n : ℕ) {f : Fault} → AxesFound ps ms n f → (f.code ≡ 0) ↔ ValidAxes (axes_of ps ms n)
unfolding NewAt
axes_valid ps ms n (AxesFound.sound v) = (λ e. v, λ w. refl)
axes_valid ps ms n (AxesFound.axis i h v a wrong) =
    let long = length_axes ps ms n in (
      λ e. absurd (wrong e),
      λ w. absurd
          (axis_wrong ps ms i a wrong (rw (axes_at ps ms n i h) at (w.valid i (omega arith)))
          (λ j l. rw (axes_at ps ms n i h, axes_at ps ms n j (omega arith)) at (w.distinct i j l (omega arith)))),
    )

-- ---- the whole

pub plan_halton : (family s : ℕ) (bases ps ms : List ℕ) → (family ≡ 2 → ⊥) → plan_of family s bases ps ms ≡ halton family (take s bases)
unfolding plan_of plan_by
plan_halton family s bases ps ms h = ap (λ (t : Bool). plan_by t family s bases ps ms) (ne_eqb family 2 h)

pub plan_sobol : (family s : ℕ) (bases ps ms : List ℕ) → family ≡ 2 → plan_of family s bases ps ms ≡ sobol (axes_of ps ms s)
unfolding plan_of plan_by
plan_sobol family s bases ps ms e = ap (λ (n : ℕ). plan_of n s bases ps ms) e

-- a valid plan is of a family that there is, and has axes
pub valid_kind : (family s : ℕ) (bases ps ms : List ℕ) → Valid (plan_of family s bases ps ms) → (family < 4) × (1 ≤ s)
unfolding Valid
valid_kind family s bases ps ms v =
    ⊎_elim
    (λ e. let w = rw (plan_sobol family s bases ps ms e) at v in (omega arith, omega (arith, length_axes ps ms s, w.0.0)))
    (λ n. let w = rw (plan_halton family s bases ps ms n) at v in (w.0.0, omega (arith, length-take s bases, w.1.0)))
    (eq_or_ne family 2)

module _ (family s : ℕ) (bases ps ms : List ℕ) (long : length bases ≡ 6) where
  -- nothing is wrong exactly where the arrays hold a valid plan
  pub found_valid : {f : Fault} → Found family s bases ps ms f → (f.code ≡ 0) ↔ ((s ≤ 6) × Valid (plan_of family s bases ps ms))
  unfolding Valid
  found_valid (Found.bad_family h) = (λ e. absurd (omega arith), λ v. absurd (omega (arith, valid_kind family s bases ps ms v.1)))
  found_valid (Found.bad_count h few) =
      (λ e. absurd (omega arith), λ v. absurd (few (omega (arith, valid_kind family s bases ps ms v.1), v.0)))
  found_valid (Found.halton h few b) =
      let iff = bases_valid bases s (omega arith) b in
      let front = length-take-le s bases (omega arith) in
      rw (plan_halton family s bases ps ms h.1)
      (λ e. (few.1, (h, (omega arith, omega arith), iff.0 e)), λ v. iff.1 v.1.2)
  found_valid (Found.sobol h few a) =
      let iff = axes_valid ps ms s a in
      let front = length_axes ps ms s in
      rw (plan_sobol family s bases ps ms h)
      (λ e. (few.1, ((omega arith, omega arith), iff.0 e)), λ v. iff.1 v.1.1)

  -- and a check is Ok exactly there
  pub checked_valid : (r : Result (Unit {0}) Fault) → Checked (Found family s bases ps ms) r
      → (is_ok r ≡ true) ↔ ((s ≤ 6) × Valid (plan_of family s bases ps ms))
  checked_valid (Ok u) c = let iff = found_valid c in (λ e. iff.0 refl, λ v. refl)
  checked_valid (Err f) c = let iff = found_valid c.0 in (λ e. absurd (true≢false (sym e)), λ v. absurd (c.1 (iff.1 v)))
