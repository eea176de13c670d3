-- The plan and the run that a state holds are those that it was made of: the given m's are the first direction numbers, shifted back. Assumes
-- nothing.
use mathlib.Core.Path.{◌≡◌, refl, sym, ap, ap₂, ◌∙◌}
use mathlib.Core.List.{List, [], ◌∷◌, ◌++◌}
use Prim.Native.Nat.{ℕ, zero, suc, ◌+◌, ◌-◌, ◌*◌, ◌/◌, ◌%◌, ◌^◌, ◌≤◌, ◌<◌}
use native.Mathlib.Omega.{arith}
use lib.ListN.{length, take, drop, get_or, length-drop}
use lib.Seq.{ext_get_or, take-suc, take-length, length-take-le, get_or-take, get_or-drop}
use lib.Pow.{shl-shr}
use borrow.Author.Tests.{ne_eqb}
use Rattle.numbers.specs.Listed.{listed, padded}
use Rattle.numbers.proofs.ListedLaws.{listed_length, listed_at, padded_at, padded_take}
use Rattle.binary.specs.Polynomial.{degree_of}
use Rattle.binary.proofs.DegreeLaws.{degree_of_lem}
use Rattle.sobol.specs.Directions.{m_list, directions}
use Rattle.sobol.proofs.DirectionLaws.{scaled_at, m_list_given}
use Rattle.plan.specs.Plan.{Axis, no_axis, Plan, halton, sobol, ValidAxes, Valid}
use Rattle.plan.specs.Answer.{polynomials_of, axis_at, axes_of, plan_by, plan_of}
use Rattle.plan.proofs.AnswerLaws.{polynomial_at}
use Rattle.points.specs.Point.{axis_count, axis_directions}
use Rattle.points.specs.Run.{Run, run_of}
use Rattle.points.specs.Arrays.{family_of, bases_array, polynomials_array, directions_in, directions_array, directions_at}
use Rattle.points.proofs.ArrayLaws.{directions_in_at}
use Rattle.state.specs.State.{m_at, ms_in, plan_in, run_in, made}

-- ---- an axis's m's by its direction numbers

-- a given m, shifted to its direction number and back
m_back : (x : Axis) (j : ℕ) → j < length x.ms → length x.ms ≤ 12 → get_or (axis_directions x) j 0 / 2 ^ (31 - j) ≡ get_or x.ms j 0
unfolding directions
m_back x j h few =
    let d = length x.ms in
    rw (scaled_at (m_list d x.polynomial x.ms 32) j, m_list_given d x.polynomial x.ms 32 j h (omega arith))
    (shl-shr (get_or x.ms j 0) (31 - j))

module _ (vs : List ℕ) (x : Axis) (i : ℕ) (few : length x.ms ≤ 12) (low : i < 6) (is : directions_at vs i ≡ axis_directions x) where
  m_at_lem : (j : ℕ) → j < length x.ms → m_at vs (12 * i + j) ≡ get_or x.ms j 0
  unfolding m_at
  m_at_lem j h =
      let q : (12 * i + j) / 12 ≡ i = omega arith in
      let r : (12 * i + j) % 12 ≡ j = omega arith in
      let e : get_or vs (32 * i + j) 0 ≡ get_or (axis_directions x) j 0 =
      sym (get_or-drop (32 * i) vs j 0) ∙ sym (get_or-take 32 (drop (32 * i) vs) j 0 (omega arith)) ∙ ap (λ (l : List ℕ). get_or l j 0) is in
      rw (q, r, e) (m_back x j h few)

  ms_back : take (length x.ms) (drop (12 * i) (ms_in vs)) ≡ x.ms
  unfolding ms_in
  ms_back =
      let long : length (take (length x.ms) (drop (12 * i) (listed (m_at vs) 72))) ≡ length x.ms =
      length-take-le (length x.ms) (drop (12 * i) (listed (m_at vs) 72)) (omega (arith, length-drop (12 * i) (listed (m_at vs) 72), listed_length (m_at vs) 72)) in
      ext_get_or 0 _ x.ms long
      (λ j h.
      let l : j < length x.ms = omega (arith, long) in
      get_or-take (length x.ms) (drop (12 * i) (listed (m_at vs) 72)) j 0 l
      ∙ get_or-drop (12 * i) (listed (m_at vs) 72) j 0 ∙ listed_at (m_at vs) 72 (12 * i + j) (omega arith) ∙ m_at_lem j l)

-- ---- the axes of a Sobol plan

module _ (axes : List Axis) (six : length axes ≤ 6) (v : ValidAxes axes) where
  abbrev vs : List ℕ
  vs = padded 192 (directions_in axes)

  axis_back : (i : ℕ) → i < length axes → axis_at (padded 6 (polynomials_of axes)) (ms_in (padded 192 (directions_in axes))) i ≡ get_or axes i no_axis
  unfolding padded
  axis_back i h =
      let x = get_or axes i no_axis in
      let ep : get_or (padded 6 (polynomials_of axes)) i 0 ≡ x.polynomial = padded_at 6 (polynomials_of axes) i ∙ polynomial_at axes i h in
      let ed : degree_of x.polynomial ≡ length x.ms = degree_of_lem (v.valid i h).degree in
      let em : take (length x.ms) (drop (12 * i) (ms_in (padded 192 (directions_in axes)))) ≡ x.ms =
      ms_back (padded 192 (directions_in axes)) x i (v.valid i h).degree_high (omega arith) (directions_in_at axes _ i h) in
      rw (ep, ed, em) refl

  axes_back : (s : ℕ) → s ≤ length axes → axes_of (padded 6 (polynomials_of axes)) (ms_in (padded 192 (directions_in axes))) s ≡ take s axes
  unfolding axes_of
  axes_back zero h = refl
  axes_back (suc s) h = ap₂ (λ (l : List Axis) (x : Axis). l ++ x ∷ []) (axes_back s (omega arith)) (axis_back s h) ∙ sym (take-suc axes s no_axis h)

pub plan_in_made : (p : Plan) → Valid p → (r : Run) (taken : ℕ) → plan_in (made p r taken) ≡ p
unfolding plan_in made Valid plan_of plan_by family_of axis_count bases_array polynomials_array directions_array
plan_in_made (halton family bases) v r taken = rw (ne_eqb family 2 v.0.1) (ap (halton family) (padded_take 6 bases (length bases) refl))
plan_in_made (sobol axes) v r taken = ap sobol (axes_back axes v.0.1 v.1 (length axes) (omega arith) ∙ take-length axes)

pub run_in_made : (p : Plan) (r : Run) → length r.starts ≡ axis_count p → (taken : ℕ) → run_in (made p r taken) ≡ r
unfolding made
run_in_made p r long taken = ap (λ (starts : List ℕ). run_of starts r.count) (padded_take 6 r.starts (axis_count p) long)
