-- A state fits exactly where it is genuine: made of a valid plan and a permitted run. Assumes nothing.
use mathlib.Core.Path.{◌≡◌, refl, sym, ap, ◌∙◌, subst}
use mathlib.Core.Bool.{Bool, true, false}
use mathlib.Core.Logic.{◌↔◌, ⊎_elim}
use mathlib.Core.List.{List, [], ◌∷◌, ◌++◌, append-nil}
use Prim.Native.Nat.{ℕ, zero, suc, ◌+◌, ◌-◌, ◌*◌, ◌/◌, ◌%◌, ◌≤◌, ◌<◌}
use native.Mathlib.Omega.{arith}
use lib.ListN.{length, get_or, take, drop, replicate, length-append, length-drop, get_or-append}
use lib.Seq.{get_or_at, get_or-take, length-take-le}
use Rattle.numbers.specs.Listed.{listed, padded}
use Rattle.numbers.proofs.Cases.{lt_or_ge, eq_or_ne}
use Rattle.numbers.proofs.ListedLaws.{padded_length, padded_at, padded_take, listed_length, listed_at}
use Rattle.sobol.proofs.DirectionLaws.{directions_length}
use Rattle.plan.specs.Plan.{Axis, no_axis, Plan, halton, sobol, ValidBases, ValidAxes, OneToSix, Valid}
use Rattle.plan.specs.Answer.{polynomials_of}
use Rattle.plan.proofs.PlaceLaws.{length_snoc}
use Rattle.plan.proofs.ValidLaws.{no_axes, axes_snoc}
use Rattle.plan.proofs.AnswerLaws.{length_polynomials, polynomial_at}
use Rattle.points.specs.Point.{axis_count, axis_directions}
use Rattle.points.specs.Run.{Run, run_of, index_at, run_point}
use Rattle.points.specs.Arrays.{family_of, bases_array, polynomials_array, directions_in, directions_array, directions_at, numerator_at, point_at, Arrays, Within}
use Rattle.points.proofs.PointLaws.{axis_count_lem}
use Rattle.points.proofs.ArrayLaws.{directions_in_at, arrays_of}
use Rattle.points.proofs.RunLaws.{opens_long, opens_within, run_point_length}
use Rattle.state.specs.State.{plan_in, run_in, next_point, made, genuine}
use Rattle.state.specs.declared.Sampler.{Sampler}
use Rattle.state.proofs.GenuineLaws.{Permitted, genuine_is, made_genuine}
use Rattle.state.proofs.StateLaws.{Holds, holds_made, holds_arrays, holds_step, next_some, next_none}
use Rattle.fitting.specs.Fits.{ZeroFrom, FitHalton, FitAxes, FitSobol, FitPlan, FitRun, FitPoint, FitNext, Fits}
use Rattle.fitting.proofs.ZeroLaws.{zeros_zero, zero_is, padded_zero, padded_is, block_at}
use Rattle.fitting.proofs.AxisLaws.{axis_of, valid_axis, axis_directions_are, axis_fit}

-- ---- the direction numbers of several axes

directions_in_length : (axes : List Axis) → length (directions_in axes) ≡ 32 * length axes
unfolding directions_in
directions_in_length [] = refl
directions_in_length (x ∷ axes) =
    rw (length-append, directions_length (length x.ms) x.polynomial x.ms, directions_in_length axes) (omega arith)

-- ---- the axes of the arrays

module _ (ps vs : List ℕ) where
  axes_from : ℕ → List Axis
  axes_from zero = []
  axes_from (suc n) = axes_from n ++ axis_of (get_or ps n 0) (directions_at vs n) ∷ []

  axes_from_length : (n : ℕ) → length (axes_from n) ≡ n
  unfolding axes_from
  axes_from_length zero = refl
  axes_from_length (suc n) = omega (arith, length_snoc (axes_from n) (axis_of (get_or ps n 0) (directions_at vs n)), axes_from_length n)

  axes_from_at : (n i : ℕ) → i < n → get_or (axes_from n) i no_axis ≡ axis_of (get_or ps i 0) (directions_at vs i)
  unfolding axes_from
  axes_from_at zero i h = absurd (omega arith)
  axes_from_at (suc n) i h =
      let x = axis_of (get_or ps n 0) (directions_at vs n) in
      ⊎_elim (λ l. get_or-append (axes_from n) (x ∷ []) no_axis i (omega (arith, axes_from_length n)) ∙ axes_from_at n i l)
      (λ l. let e : i ≡ n = omega arith in rw e (get_or_at (axes_from n) x [] no_axis n (axes_from_length n)))
      (lt_or_ge i n)

  axes_from_valid : (n : ℕ) → FitAxes ps vs n → ValidAxes (axes_from n)
  unfolding axes_from
  axes_from_valid zero f = no_axes
  axes_from_valid (suc n) f =
      axes_snoc
      (axes_from_valid n (record { axis = λ i h. f.axis i (omega arith); distinct = λ i j h k. f.distinct i j h (omega arith) }))
      (valid_axis (f.axis n (omega arith)))
      (λ j h e.
      let l : j < n = omega (arith, axes_from_length n) in
      f.distinct n j l (omega arith) (e ∙ ap (λ (x : Axis). x.polynomial) (axes_from_at n j l)))

  module _ (n : ℕ) (six : n ≤ 6) (f : FitAxes ps vs n) where
    polynomials_are : length ps ≡ 6 → ZeroFrom n ps → ps ≡ padded 6 (polynomials_of (axes_from n))
    polynomials_are e z =
        padded_is 6 ps (polynomials_of (axes_from n)) n e (length_polynomials (axes_from n) ∙ axes_from_length n) six
        (λ i h. sym (polynomial_at (axes_from n) i (omega (arith, axes_from_length n)) ∙ ap (λ (x : Axis). x.polynomial) (axes_from_at n i h))) z

    word_is : length vs ≡ 192 → (j : ℕ) → j < 32 * n → get_or vs j 0 ≡ get_or (directions_in (axes_from n)) j 0
    word_is e j h =
        let i = j / 32 in
        let l : i < n = omega arith in
        let long : length (directions_at vs i) ≡ 32 = length-take-le 32 (drop (32 * i) vs) (omega (arith, length-drop (32 * i) vs)) in
        let axis : directions_at (directions_in (axes_from n) ++ []) i ≡ directions_at vs i =
        directions_in_at (axes_from n) [] i (omega (arith, axes_from_length n)) ∙ ap axis_directions (axes_from_at n i l) ∙ sym (axis_directions_are (f.axis i l) long) in
        block_at vs j ∙ ap (λ (b : List ℕ). get_or b (j % 32) 0) (sym axis) ∙ sym (block_at (directions_in (axes_from n) ++ []) j)
        ∙ ap (λ (b : List ℕ). get_or b j 0) (append-nil (directions_in (axes_from n)))

    directions_are_in : length vs ≡ 192 → ZeroFrom (32 * n) vs → vs ≡ padded 192 (directions_in (axes_from n))
    directions_are_in e z =
        padded_is 192 vs (directions_in (axes_from n)) (32 * n) e (directions_in_length (axes_from n) ∙ ap (λ (k : ℕ). 32 * k) (axes_from_length n)) (omega arith)
        (word_is e) z

-- ---- the next point

module _ {p : Plan} {family axes : ℕ} {bases vs : List ℕ} (h : Holds p family axes bases vs) (v : Valid p) (x starts : List ℕ) (r : Run)
    (e : starts ≡ padded 6 r.starts) (taken : ℕ) where
  abbrev six : Run
  six = run_of starts r.count

  abbrev word : ℕ → ℕ
  word i = numerator_at family bases vs (index_at six i taken) i

  next_is : axes ≤ 6 → length x ≡ 6 → FitNext family axes bases vs x six taken → x ≡ next_point p r taken
  unfolding point_at
  next_is few long next =
      ⊎_elim
      (λ q.
      let f = next.some q in
      padded_is 6 x (listed word axes) axes long (listed_length word axes) few (λ i l. f.word i l ∙ sym (listed_at word axes i l)) f.zero_after
      ∙ holds_step h v r e taken ∙ next_some p r taken q)
      (λ q. zero_is 6 x long (next.none q) ∙ next_none p r taken q)
      (lt_or_ge taken r.count)

  point_fits : FitPoint family axes bases vs (point_at family axes bases vs (λ i. index_at six i taken)) (λ i. index_at six i taken)
  unfolding point_at
  point_fits =
      record {
        word = λ i l. padded_at 6 (listed word axes) i ∙ listed_at word axes i l;
        zero_after = padded_zero 6 (listed word axes) axes (listed_length word axes);
      }

  is_next : x ≡ next_point p r taken → FitNext family axes bases vs x six taken
  is_next is =
      record {
        some = λ q. rw (is ∙ sym (next_some p r taken q) ∙ sym (holds_step h v r e taken)) point_fits;
        none = λ q. rw (is ∙ sym (next_none p r taken q)) (zeros_zero 6 0);
      }

-- ---- the run

module _ {family axes : ℕ} {starts : List ℕ} {count taken : ℕ} (few : OneToSix axes) (long : length starts ≡ 6)
    (f : FitRun family axes starts count taken) where
  -- zeros follow the starts
  starts_are : starts ≡ padded 6 (take axes starts)
  starts_are =
      padded_is 6 starts (take axes starts) axes long (length-take-le axes starts (omega arith)) few.1 (λ i h. sym (get_or-take axes starts i 0 h)) f.starts_zero

  run_permitted : {p : Plan} → family ≡ family_of p → axes ≡ axis_count p → Permitted p (run_of (take axes starts) count) taken
  run_permitted e k = record { opens = record { is_in_range = f.is_in_range; has_starts_lem = rw (← e, ← k) f.has_starts_lem }; not_past = f.not_past }

-- ---- arrays that fit are a valid plan's

record PlanHeld (family axes : ℕ) (bases ps vs : List ℕ) : Type 0 where
  plan : Plan
  valid : Valid plan
  holds : Holds plan family axes bases vs
  polynomials_is : ps ≡ polynomials_array plan

module _ (family axes : ℕ) (bases ps vs : List ℕ) (few : OneToSix axes) (long : length bases ≡ 6) (long-ps : length ps ≡ 6) (long-vs : length vs ≡ 192) where
  held_halton : FitHalton family axes bases ps vs → PlanHeld family axes bases ps vs
  unfolding Valid family_of axis_count bases_array polynomials_array directions_array
  held_halton k =
      let front = length-take-le axes bases (omega arith) in
      let at : (i : ℕ) → i < axes → get_or (take axes bases) i 0 ≡ get_or bases i 0 = λ i h. get_or-take axes bases i 0 h in
      let valid : ValidBases (take axes bases) =
      record {
        low = λ i h. rw (at i (omega arith)) (k.bases_fit.low i (omega arith));
        high = λ i h. rw (at i (omega arith)) (k.bases_fit.high i (omega arith));
        coprime = λ i j h l. rw (at i (omega arith), at j (omega arith)) (k.bases_fit.coprime i j h (omega arith));
      } in
      record {
        plan = halton family (take axes bases);
        valid = (k.kind, (omega arith, omega arith), valid);
        holds = record {
          family_is = refl;
          axes_is = sym front;
          bases_is = padded_is 6 bases (take axes bases) axes long front few.1 (λ i h. sym (at i h)) k.bases_zero;
          directions_is = zero_is 192 vs long-vs k.directions_zero;
        };
        polynomials_is = zero_is 6 ps long-ps k.polynomials_zero;
      }

  held_sobol : family ≡ 2 → FitSobol axes bases ps vs → PlanHeld family axes bases ps vs
  unfolding Valid family_of axis_count bases_array polynomials_array directions_array
  held_sobol two k =
      let many = axes_from_length ps vs axes in
      record {
        plan = sobol (axes_from ps vs axes);
        valid = ((omega arith, omega arith), axes_from_valid ps vs axes k.axes_fit);
        holds = record {
          family_is = two;
          axes_is = sym many;
          bases_is = zero_is 6 bases long k.bases_zero;
          directions_is = directions_are_in ps vs axes few.1 k.axes_fit long-vs k.directions_zero;
        };
        polynomials_is = polynomials_are ps vs axes few.1 k.axes_fit long-ps k.polynomials_zero;
      }

  held : FitPlan family axes bases ps vs → PlanHeld family axes bases ps vs
  held f = ⊎_elim (λ e. held_sobol e (f.if_sobol e)) (λ n. held_halton (f.if_halton n)) (eq_or_ne family 2)

  -- so the points are there to be asked for
  pub fit_arrays : FitPlan family axes bases ps vs → Arrays family axes bases vs
  fit_arrays f = let h = held f in holds_arrays h.holds h.valid

  -- and the indexes
  pub fit_within : {starts : List ℕ} {count taken : ℕ} → length starts ≡ 6 → FitPlan family axes bases ps vs → FitRun family axes starts count taken
      → Within starts count
  fit_within six f r =
      let h = held f in
      rw (starts_are few six r) (opens_within (run_permitted few six r h.holds.family_is h.holds.axes_is).opens h.valid)

fits_genuine : (s : Sampler) → Fits s → genuine s ≡ true
fits_genuine s f =
    let h = held s.family s.axes s.bases s.polynomials s.directions f.few f.sized.bases f.sized.polynomials f.sized.directions f.plan in
    let starts = starts_are f.few f.sized.starts f.run in
    ap genuine
    (holds_made h.holds s.polynomials s.starts s.count s.taken s.numerators (run_in s) h.polynomials_is starts refl
    (next_is h.holds h.valid s.numerators s.starts (run_in s) starts s.taken f.few.1 f.sized.numerators f.next))
    ∙ made_genuine h.plan h.valid (run_in s) s.taken (run_permitted f.few f.sized.starts f.run h.holds.family_is h.holds.axes_is)

-- ---- a state made of a valid plan fits

fit_halton : (family : ℕ) (bases : List ℕ) → Valid (halton family bases)
    → FitHalton family (length bases) (padded 6 bases) (replicate 6 0) (replicate 192 0)
unfolding Valid
fit_halton family bases v =
    record {
      kind = v.0;
      bases_fit = record {
        low = λ i h. rw (padded_at 6 bases i) (v.2.low i h);
        high = λ i h. rw (padded_at 6 bases i) (v.2.high i h);
        coprime = λ i j h k. rw (padded_at 6 bases i, padded_at 6 bases j) (v.2.coprime i j h k);
      };
      bases_zero = padded_zero 6 bases (length bases) refl;
      polynomials_zero = zeros_zero 6 0;
      directions_zero = zeros_zero 192 0;
    }

fit_sobol : (axes : List Axis) → Valid (sobol axes)
    → FitSobol (length axes) (replicate 6 0) (padded 6 (polynomials_of axes)) (padded 192 (directions_in axes))
unfolding Valid
fit_sobol axes v =
    let at : (i : ℕ) → i < length axes → get_or (padded 6 (polynomials_of axes)) i 0 ≡ (get_or axes i no_axis).polynomial =
    λ i h. padded_at 6 (polynomials_of axes) i ∙ polynomial_at axes i h in
    let block : (i : ℕ) → i < length axes → directions_at (padded 192 (directions_in axes)) i ≡ axis_directions (get_or axes i no_axis) =
    λ i h. unfold padded in (directions_in_at axes (replicate (192 - length (directions_in axes)) 0) i h) in
    record {
      axes_fit = record {
        axis = λ i h. rw (at i h, block i h) (axis_fit (get_or axes i no_axis) (v.1.valid i h));
        distinct = λ i j h k. rw (at i k, at j (omega arith)) (v.1.distinct i j h k);
      };
      bases_zero = zeros_zero 6 0;
      polynomials_zero = padded_zero 6 (polynomials_of axes) (length axes) (length_polynomials axes);
      directions_zero = padded_zero 192 (directions_in axes) (32 * length axes) (directions_in_length axes);
    }

fit_if_halton : (p : Plan) → Valid p → (family_of p ≡ 2 → ⊥) → FitHalton (family_of p) (axis_count p) (bases_array p) (polynomials_array p) (directions_array p)
unfolding family_of axis_count bases_array polynomials_array directions_array
fit_if_halton (halton family bases) v n = fit_halton family bases v
fit_if_halton (sobol axes) v n = absurd (n refl)

fit_if_sobol : (p : Plan) → Valid p → family_of p ≡ 2 → FitSobol (axis_count p) (bases_array p) (polynomials_array p) (directions_array p)
unfolding Valid family_of axis_count bases_array polynomials_array directions_array
fit_if_sobol (halton family bases) v e = absurd (omega arith)
fit_if_sobol (sobol axes) v e = fit_sobol axes v

polynomials_length : (p : Plan) → Valid p → length (polynomials_array p) ≡ 6
unfolding Valid polynomials_array
polynomials_length (halton family bases) v = refl
polynomials_length (sobol axes) v = padded_length 6 (polynomials_of axes) (omega (arith, length_polynomials axes))

module _ (p : Plan) (v : Valid p) (r : Run) (taken : ℕ) (run : Permitted p r taken) where
  next_length : length (next_point p r taken) ≡ 6
  next_length =
      ⊎_elim
      (λ q. rw (← next_some p r taken q) (padded_length 6 (run_point p r taken) (omega (arith, run_point_length p r taken, axis_count_lem p v))))
      (λ q. rw (← next_none p r taken q) refl)
      (lt_or_ge taken r.count)

  long : length r.starts ≡ axis_count p
  long = opens_long run.opens

  run_fits : FitRun (family_of p) (axis_count p) (padded 6 r.starts) r.count taken
  run_fits =
      record {
        is_in_range = rw (padded_take 6 r.starts (axis_count p) long) run.opens.is_in_range;
        has_starts_lem = rw (padded_take 6 r.starts (axis_count p) long) run.opens.has_starts_lem;
        starts_zero = padded_zero 6 r.starts (axis_count p) long;
        not_past = run.not_past;
      }

  made_fits : Fits (made p r taken)
  unfolding made
  made_fits =
      let a = arrays_of p v in
      let h : Holds p (family_of p) (axis_count p) (bases_array p) (directions_array p) = record { family_is = refl; axes_is = refl; bases_is = refl; directions_is = refl } in
      record {
        sized = record {
          bases = a.bases_long;
          polynomials = polynomials_length p v;
          directions = a.directions_long;
          starts = padded_length 6 r.starts (omega (arith, long, axis_count_lem p v));
          numerators = next_length;
        };
        few = axis_count_lem p v;
        run = run_fits;
        plan = record { if_halton = fit_if_halton p v; if_sobol = fit_if_sobol p v };
        next = is_next h v (next_point p r taken) (padded 6 r.starts) r refl taken refl;
      }

-- ---- so

pub genuine_fits : (s : Sampler) → (genuine s ≡ true) ↔ Fits s
genuine_fits s = (
  λ e. let g = genuine_is s e in subst Fits (sym g.is) (made_fits (plan_in s) g.valid (run_in s) s.taken g.run),
  fits_genuine s,
)

-- what decides whether a state fits is the test
pub decided : (s : Sampler) (r : Bool) → (r ≡ true) ↔ Fits s → r ≡ genuine s
decided s r d = go r (genuine s) (λ e. (genuine_fits s).1 (d.0 e)) (λ e. d.1 ((genuine_fits s).0 e))
  where
    go : (a b : Bool) → (a ≡ true → b ≡ true) → (b ≡ true → a ≡ true) → a ≡ b
    go true b f g = sym (f refl)
    go false true f g = g refl
    go false false f g = refl
