-- The arrays of the reader's answer hold the plan that was read: each list stands in front of its zeros, the m's of axis i from place 12 i on.
-- So an answer says what the reading was: of its plan, whose spelling the bytes are, or refused, and with which number. Assumes nothing.
use mathlib.Core.Path.{◌≡◌, refl, sym, ap, ap₂, ◌∙◌, subst}
use mathlib.Core.List.{List, [], ◌∷◌, ◌++◌, append_assoc}
use Prim.Native.Nat.{ℕ, zero, suc, ◌+◌, ◌-◌, ◌*◌, ◌≤◌, ◌<◌}
use native.Mathlib.Omega.{arith}
use lib.ListN.{length, take, drop, get_or, replicate}
use lib.Seq.{take_at, take-suc, take-length, drop-append-add}
use borrow.Author.Tests.{ne_eqb}
use Rattle.numbers.specs.Listed.{padded}
use Rattle.numbers.proofs.ListedLaws.{padded_length, padded_at, padded_take}
use Rattle.binary.specs.Polynomial.{degree_of}
use Rattle.binary.proofs.DegreeLaws.{degree_of_lem}
use Rattle.bits.specs.Stream.{AllBelow}
use Rattle.plan.specs.Plan.{Axis, no_axis, Plan, halton, sobol, ValidAxes, Valid, spell}
use Rattle.plan.specs.Reading.{Reading, refused, accepted, read_plan}
use Rattle.plan.specs.Answer.{polynomials_of, ms_of, answer_of, axis_at, axes_of, plan_by, plan_of, plan_answered}
use Rattle.plan.specs.declared.PlanRead.{PlanRead}
use Rattle.plan.proofs.PlaceLaws.{length_snoc}
use Rattle.plan.proofs.AcceptLaws.{accepted_iff}
use Rattle.plan.proofs.RefusalLaws.{refused_range}

pub length_axes : (ps ms : List ℕ) (s : ℕ) → length (axes_of ps ms s) ≡ s
unfolding axes_of
length_axes ps ms zero = refl
length_axes ps ms (suc s) = omega (arith, length_snoc (axes_of ps ms s) (axis_at ps ms s), length_axes ps ms s)

pub length_polynomials : (axes : List Axis) → length (polynomials_of axes) ≡ length axes
unfolding polynomials_of
length_polynomials [] = refl
length_polynomials (x ∷ axes) = ap suc (length_polynomials axes)

pub polynomial_at : (axes : List Axis) (i : ℕ) → i < length axes → get_or (polynomials_of axes) i 0 ≡ (get_or axes i no_axis).polynomial
unfolding polynomials_of
polynomial_at [] i h = absurd (omega arith)
polynomial_at (x ∷ axes) zero h = refl
polynomial_at (x ∷ axes) (suc i) h = polynomial_at axes i (omega arith)

pub ms_at : (axes : List Axis) (z : List ℕ) → ((i : ℕ) → i < length axes → length (get_or axes i no_axis).ms ≤ 12) → (i : ℕ) → i < length axes
    → take (length (get_or axes i no_axis).ms) (drop (12 * i) (ms_of axes ++ z)) ≡ (get_or axes i no_axis).ms
unfolding ms_of padded
ms_at [] z fit i h = absurd (omega arith)
ms_at (x ∷ axes) z fit zero h = simp append_assoc (take_at x.ms _ (length x.ms) refl)
ms_at (x ∷ axes) z fit (suc i) h =
    let e : 12 * suc i ≡ length (padded 12 x.ms) + 12 * i = omega (arith, padded_length 12 x.ms (fit 0 (omega arith))) in
    rw (e, append_assoc (padded 12 x.ms) (ms_of axes) z, drop-append-add) (ms_at axes z (λ j k. fit (suc j) (omega arith)) i (omega arith))

module _ (axes : List Axis) (v : ValidAxes axes) where
  axis_back : (i : ℕ) → i < length axes → axis_at (padded 6 (polynomials_of axes)) (padded 72 (ms_of axes)) i ≡ get_or axes i no_axis
  axis_back i h =
      let ep : get_or (padded 6 (polynomials_of axes)) i 0 ≡ (get_or axes i no_axis).polynomial =
      padded_at 6 (polynomials_of axes) i ∙ polynomial_at axes i h in
      let ed : degree_of (get_or axes i no_axis).polynomial ≡ length (get_or axes i no_axis).ms = degree_of_lem (v.valid i h).degree in
      let em : take (length (get_or axes i no_axis).ms) (drop (12 * i) (padded 72 (ms_of axes))) ≡ (get_or axes i no_axis).ms =
      unfold padded in (ms_at axes (replicate (72 - length (ms_of axes)) 0) (λ j k. (v.valid j k).degree_high) i h) in
      rw (ep, ed, em) refl

  axes_back : (s : ℕ) → s ≤ length axes → axes_of (padded 6 (polynomials_of axes)) (padded 72 (ms_of axes)) s ≡ take s axes
  unfolding axes_of
  axes_back zero h = refl
  axes_back (suc s) h = ap₂ (λ (l : List Axis) (x : Axis). l ++ x ∷ []) (axes_back s (omega arith)) (axis_back s h) ∙ sym (take-suc axes s no_axis h)

pub plan_of_answer : (p : Plan) → Valid p → let a = answer_of (accepted p) in plan_of a.family a.axes a.bases a.polynomials a.ms ≡ p
unfolding answer_of plan_of plan_by Valid
plan_of_answer (halton family bases) v = rw (ne_eqb family 2 v.0.1) (ap (halton family) (padded_take 6 bases (length bases) refl))
plan_of_answer (sobol axes) v = ap sobol (axes_back axes v.1 (length axes) (omega arith) ∙ take-length axes)

-- ---- what an answer says of the reading

-- `a` answers a reading of the bytes that is accepted: the plan that it holds is valid, and the bytes are its spelling
pub read_accepted : (bytes : List ℕ) → AllBelow 256 bytes → (a : PlanRead) → a ≡ answer_of (read_plan bytes) → a.code ≡ 0
    → (read_plan bytes ≡ accepted (plan_answered a)) × Valid (plan_answered a) × (bytes ≡ spell (plan_answered a))
unfolding answer_of
read_accepted bytes below a e z = go (read_plan bytes) refl
  where
    go : (r : Reading) → read_plan bytes ≡ r → (read_plan bytes ≡ accepted (plan_answered a)) × Valid (plan_answered a) × (bytes ≡ spell (plan_answered a))
    go (refused n) f =
        let code : a.code ≡ n = ap (λ (x : PlanRead). x.code) (e ∙ ap answer_of f) in
        absurd (omega (arith, refused_range bytes n f))
    go (accepted p) f =
        let w = (accepted_iff bytes below p).0 f in
        let same : p ≡ plan_answered a = sym (ap plan_answered (e ∙ ap answer_of f) ∙ plan_of_answer p w.0) in
        (f ∙ ap accepted same, subst Valid same w.0, w.1 ∙ ap spell same)

-- `a` answers a reading of the bytes that is refused, with its number
pub read_refused : (bytes : List ℕ) (a : PlanRead) → a ≡ answer_of (read_plan bytes) → (a.code ≡ 0 → ⊥) → read_plan bytes ≡ refused a.code
unfolding answer_of
read_refused bytes a e f = go (read_plan bytes) refl
  where
    go : (r : Reading) → read_plan bytes ≡ r → read_plan bytes ≡ refused a.code
    go (refused n) g = g ∙ ap refused (sym (ap (λ (x : PlanRead). x.code) (e ∙ ap answer_of g)))
    go (accepted (halton family bases)) g = absurd (f (ap (λ (x : PlanRead). x.code) (e ∙ ap answer_of g)))
    go (accepted (sobol axes)) g = absurd (f (ap (λ (x : PlanRead). x.code) (e ∙ ap answer_of g)))
