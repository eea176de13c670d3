-- The arrays of an accepted answer and of a genuine state are its plan's, so that the points by them are the plan's points. Assumes nothing.
use mathlib.Core.Path.{◌≡◌, refl, sym, ap, ◌∙◌}
use mathlib.Core.Bool.{Bool, true, false, cond}
use mathlib.Core.List.{List}
use Prim.Native.Nat.{ℕ, ◌<◌, ◌≤◌}
use native.Mathlib.Omega.{arith}
use lib.Dec.{ltb}
use lib.ListN.{replicate, take}
use borrow.Author.Tests.{lt-ltb, le-ltb, eq-eqb, ne_eqb}
use Rattle.numbers.specs.Listed.{padded}
use Rattle.plan.specs.Plan.{Plan, halton, sobol, Valid}
use Rattle.plan.specs.Reading.{accepted}
use Rattle.plan.specs.Answer.{answer_of, axes_of, plan_by, plan_of, plan_answered, Accepted}
use Rattle.plan.specs.declared.PlanRead.{PlanRead}
use Rattle.points.specs.Point.{axis_count, point_of}
use Rattle.points.specs.Run.{Run, run_of, index_at, run_point}
use Rattle.points.specs.Arrays.{family_of, bases_array, polynomials_array, directions_in, directions_array, point_at, Arrays, Within}
use Rattle.points.proofs.PointLaws.{axis_count_lem}
use Rattle.points.proofs.WordLaws.{point_at_same}
use Rattle.points.proofs.ArrayLaws.{arrays_of, point_at_plan, point_at_step}
use Rattle.points.proofs.RunLaws.{opens_within, from_padded}
use Rattle.state.specs.State.{state_of, next_point, made, blank, plan_in, run_in, genuine}
use Rattle.state.specs.declared.Sampler.{Sampler}
use Rattle.state.proofs.GenuineLaws.{Genuine, genuine_is}

-- ---- the next point

pub next_some : (p : Plan) (r : Run) (taken : ℕ) → taken < r.count → padded 6 (run_point p r taken) ≡ next_point p r taken
unfolding next_point
next_some p r taken h = rw (lt-ltb taken r.count h)

pub next_none : (p : Plan) (r : Run) (taken : ℕ) → r.count ≤ taken → replicate 6 0 ≡ next_point p r taken
unfolding next_point
next_none p r taken h = rw (le-ltb taken r.count h)

-- ---- arrays that are a plan's

pub record Holds (p : Plan) (family axes : ℕ) (bases vs : List ℕ) : Type 0 where
  pub family_is : family ≡ family_of p
  pub axes_is : axes ≡ axis_count p
  pub bases_is : bases ≡ bases_array p
  pub directions_is : vs ≡ directions_array p

module _ {p : Plan} {family axes : ℕ} {bases vs : List ℕ} (h : Holds p family axes bases vs) (v : Valid p) where
  pub holds_arrays : Arrays family axes bases vs
  holds_arrays = rw (h.family_is, h.axes_is, h.bases_is, h.directions_is) (arrays_of p v)

  pub holds_point : (n : ℕ) → point_at family axes bases vs (λ i. n) ≡ padded 6 (point_of p n)
  holds_point n = rw (h.family_is, h.axes_is, h.bases_is, h.directions_is) (point_at_plan p v n)

  -- the points of a run, by its starts with zeros after them
  module _ (r : Run) {starts : List ℕ} (e : starts ≡ padded 6 r.starts) where
    pub holds_step : (t : ℕ) → point_at family axes bases vs (λ i. index_at (run_of starts r.count) i t) ≡ padded 6 (run_point p r t)
    unfolding index_at
    holds_step t =
        point_at_same family axes bases vs _ _ (λ i l. from_padded r e i t)
        ∙ rw (h.family_is, h.axes_is, h.bases_is, h.directions_is) (point_at_step p v r t)

    pub holds_next : (taken : ℕ)
        → cond (ltb taken r.count) (point_at family axes bases vs (λ i. index_at (run_of starts r.count) i taken)) (replicate 6 0) ≡ next_point p r taken
    unfolding next_point
    holds_next taken = ap (λ (x : List ℕ). cond (ltb taken r.count) x (replicate 6 0)) (holds_step taken)

-- the state of these arrays
pub holds_made : {p : Plan} {family axes : ℕ} {bases vs : List ℕ} → Holds p family axes bases vs
    → (ps starts : List ℕ) (count taken : ℕ) (x : List ℕ) (r : Run)
    → ps ≡ polynomials_array p → starts ≡ padded 6 r.starts → count ≡ r.count → x ≡ next_point p r taken
    → state_of family axes bases ps vs starts count taken x ≡ made p r taken
unfolding made
holds_made h ps starts count taken x r e b n f =
    λ j. record {
      family = h.family_is j;
      axes = h.axes_is j;
      bases = h.bases_is j;
      polynomials = e j;
      directions = h.directions_is j;
      starts = b j;
      count = n j;
      taken = taken;
      numerators = f j;
    }

-- ---- an answer's

answer_holds : (p : Plan) → let a = answer_of (accepted p) in Holds p a.family a.axes a.bases (directions_array p)
unfolding answer_of family_of axis_count bases_array
answer_holds (halton family bases) = record { family_is = refl; axes_is = refl; bases_is = refl; directions_is = refl }
answer_holds (sobol axes) = record { family_is = refl; axes_is = refl; bases_is = refl; directions_is = refl }

answer_polynomials : (p : Plan) → (answer_of (accepted p)).polynomials ≡ polynomials_array p
unfolding answer_of polynomials_array
answer_polynomials (halton family bases) = refl
answer_polynomials (sobol axes) = refl

module _ {a : PlanRead} (h : Accepted a) where
  pub accepted_holds : (vs : List ℕ) → vs ≡ directions_array (plan_answered a) → Holds (plan_answered a) a.family a.axes a.bases vs
  accepted_holds vs e =
      let k = answer_holds (plan_answered a) in
      record {
        family_is = ap (λ (b : PlanRead). b.family) h.is ∙ k.family_is;
        axes_is = ap (λ (b : PlanRead). b.axes) h.is ∙ k.axes_is;
        bases_is = ap (λ (b : PlanRead). b.bases) h.is ∙ k.bases_is;
        directions_is = e;
      }

  pub accepted_polynomials : a.polynomials ≡ polynomials_array (plan_answered a)
  accepted_polynomials = ap (λ (b : PlanRead). b.polynomials) h.is ∙ answer_polynomials (plan_answered a)

  pub accepted_few : a.axes ≤ 6
  accepted_few = omega (arith, (accepted_holds (directions_array (plan_answered a)) refl).axes_is, axis_count_lem (plan_answered a) h.valid)

module _ (a : PlanRead) where
  pub answered_sobol : a.family ≡ 2 → plan_answered a ≡ sobol (axes_of a.polynomials a.ms a.axes)
  unfolding plan_of plan_by
  answered_sobol e = rw (eq-eqb a.family 2 e)

  answered_halton : (a.family ≡ 2 → ⊥) → plan_answered a ≡ halton a.family (take a.axes a.bases)
  unfolding plan_of plan_by
  answered_halton f = rw (ne_eqb a.family 2 f)

  pub directions_sobol : a.family ≡ 2 → padded 192 (directions_in (axes_of a.polynomials a.ms a.axes)) ≡ directions_array (plan_answered a)
  unfolding directions_array
  directions_sobol e = ap directions_array (sym (answered_sobol e))

  pub directions_halton : (a.family ≡ 2 → ⊥) → replicate 192 0 ≡ directions_array (plan_answered a)
  unfolding directions_array
  directions_halton f = ap directions_array (sym (answered_halton f))

-- ---- a genuine state's

module _ {s : Sampler} (g : Genuine s) where
  pub genuine_holds : Holds (plan_in s) s.family s.axes s.bases s.directions
  unfolding made
  genuine_holds =
      record {
        family_is = ap (λ (t : Sampler). t.family) g.is;
        axes_is = ap (λ (t : Sampler). t.axes) g.is;
        bases_is = ap (λ (t : Sampler). t.bases) g.is;
        directions_is = ap (λ (t : Sampler). t.directions) g.is;
      }

  pub genuine_polynomials : s.polynomials ≡ polynomials_array (plan_in s)
  unfolding made
  genuine_polynomials = ap (λ (t : Sampler). t.polynomials) g.is

  pub genuine_next : s.numerators ≡ next_point (plan_in s) (run_in s) s.taken
  unfolding made
  genuine_next = ap (λ (t : Sampler). t.numerators) g.is

  pub genuine_arrays : Arrays s.family s.axes s.bases s.directions
  genuine_arrays = holds_arrays genuine_holds g.valid

  pub genuine_point : (n : ℕ) → point_at s.family s.axes s.bases s.directions (λ i. n) ≡ padded 6 (point_of (plan_in s) n)
  genuine_point = holds_point genuine_holds g.valid

  -- the starts, with zeros after them
  pub genuine_starts : s.starts ≡ padded 6 (run_in s).starts
  unfolding made
  genuine_starts = ap (λ (t : Sampler). t.starts) g.is

  pub genuine_within : Within s.starts s.count
  genuine_within = rw (genuine_starts) (opens_within g.run.opens g.valid)

  -- where a point is left, the state has it
  pub genuine_current : s.taken < s.count
      → s.numerators ≡ point_at s.family s.axes s.bases s.directions (λ i. index_at (run_of s.starts s.count) i s.taken)
  genuine_current h =
      genuine_next ∙ sym (next_some (plan_in s) (run_in s) s.taken h) ∙ sym (holds_step genuine_holds g.valid (run_in s) genuine_starts s.taken)

-- the blank state has no axes, and no plan is so
pub blank_foreign : genuine blank ≡ false
unfolding blank
blank_foreign = go (genuine blank) refl
  where
    go : (b : Bool) → genuine blank ≡ b → genuine blank ≡ false
    go false e = e
    go true e =
        let g = genuine_is blank e in
        let none : 0 ≡ axis_count (plan_in blank) = (genuine_holds g).axes_is in
        absurd (omega (arith, none, (axis_count_lem (plan_in blank) g.valid).0))
