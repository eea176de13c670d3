-- What putting a point at the front of a buffer leaves, for the point that a genuine state holds and for any point of its plan. Assumes nothing.
use mathlib.Core.Path.{◌≡◌, sym, ap, ap₂, ◌∙◌}
use mathlib.Core.Bool.{true, cond}
use mathlib.Core.List.{List, ◌++◌}
use Prim.Native.Nat.{ℕ, ◌+◌, ◌^◌, ◌≤◌, ◌<◌}
use native.Mathlib.Nat.{add_assoc}
use native.Mathlib.Omega.{arith}
use lib.Dec.{ltb}
use lib.ListN.{length, take, drop, get_or, replicate}
use lib.Seq.{get_or-take}
use Rattle.numbers.specs.Listed.{listed, padded}
use Rattle.numbers.proofs.ListedLaws.{listed_length, padded_take}
use Rattle.bits.specs.Stream.{overwrite}
use Rattle.bits.proofs.OverwriteLaws.{over_start}
use Rattle.plan.specs.Plan.{Plan, Valid}
use Rattle.points.specs.Point.{axis_count, numerator_of, denominator_of, point_of}
use Rattle.points.specs.Run.{Run, run_of, index_at, indexes_at, in_range, has_starts, Opens, run_point}
use Rattle.points.proofs.RunLaws.{six_at, run_point_length}
use Rattle.points.specs.Arrays.{numerator_at, denominator_at, point_at, Arrays, Within}
use Rattle.points.proofs.PointLaws.{axis_count_lem, denominator_of_lt, numerator_of_lt, point_of_length}
use Rattle.points.proofs.ArrayLaws.{numerator_at_plan, denominator_at_plan}
use Rattle.state.specs.State.{next_point, plan_in, run_in, genuine}
use Rattle.state.specs.declared.Sampler.{Sampler}
use Rattle.state.proofs.GenuineLaws.{Genuine, genuine_is}
use Rattle.state.proofs.StateLaws.{Holds, holds_step, holds_next, genuine_holds, genuine_arrays, genuine_point, genuine_starts, genuine_within, genuine_current}

module _ {p : Plan} {family axes : ℕ} {bases vs : List ℕ} (h : Holds p family axes bases vs) (v : Valid p) where
  holds_numerator : (n i : ℕ) → i < axes → numerator_at family bases vs n i ≡ numerator_of p n i
  holds_numerator n i l =
      rw (h.family_is, h.bases_is, h.directions_is) (numerator_at_plan p v n i (omega (arith, h.axes_is)))

  holds_denominator : (i : ℕ) → denominator_at family bases i ≡ denominator_of p i
  holds_denominator i = rw (h.family_is, h.bases_is) (denominator_at_plan p v i)

module _ (s : Sampler) (g : genuine s ≡ true) where
  is : Genuine s
  is = genuine_is s g

  pub axes_are : s.axes ≡ axis_count (plan_in s)
  axes_are = (genuine_holds is).axes_is

  pub axes_few : (1 ≤ s.axes) × (s.axes ≤ 6)
  axes_few = let h = axis_count_lem (plan_in s) is.valid in (omega (arith, axes_are, h.0), omega (arith, axes_are, h.1))

  -- the front of the words that hold a point is the point
  pub point_front : (n : ℕ) → take s.axes (point_at s.family s.axes s.bases s.directions (λ i. n)) ≡ point_of (plan_in s) n
  point_front n =
      ap (take s.axes) (genuine_point is n) ∙ padded_take 6 (point_of (plan_in s) n) s.axes (point_of_length (plan_in s) n ∙ sym axes_are)

  -- put at the front of a buffer: the point of any index, and that of the run's step t
  pub point_put : (buf new x : List ℕ) (n : ℕ) → x ≡ point_at s.family s.axes s.bases s.directions (λ i. n)
      → new ≡ overwrite buf 0 (take s.axes x) → new ≡ point_of (plan_in s) n ++ drop s.axes buf
  point_put buf new x n e put =
      put ∙ rw (e, point_front n) (over_start buf (point_of (plan_in s) n) s.axes (point_of_length (plan_in s) n ∙ sym axes_are))

  pub step_put : (buf new x : List ℕ) (t : ℕ) → x ≡ padded 6 (run_point (plan_in s) (run_in s) t) → new ≡ overwrite buf 0 (take s.axes x)
      → new ≡ run_point (plan_in s) (run_in s) t ++ drop s.axes buf
  step_put buf new x t e put =
      let point = run_point (plan_in s) (run_in s) t in
      let long : length point ≡ s.axes = run_point_length (plan_in s) (run_in s) t ∙ sym axes_are in
      put ∙ rw (e, padded_take 6 point s.axes long) (over_start buf point s.axes long)

  -- and how long it is
  pub front_long : (x : List ℕ) (n : ℕ → ℕ) → x ≡ point_at s.family s.axes s.bases s.directions n → length (take s.axes x) ≡ s.axes
  unfolding point_at
  front_long x n e =
      let word : ℕ → ℕ = λ i. numerator_at s.family s.bases s.directions (n i) i in
      rw (e, padded_take 6 (listed word s.axes) s.axes (listed_length word s.axes)) (listed_length word s.axes)

  pub known_arrays : Arrays s.family s.axes s.bases s.directions
  known_arrays = genuine_arrays is

  pub known_starts : s.starts ≡ padded 6 (run_in s).starts
  known_starts = genuine_starts is

  pub known_run : Within s.starts s.count × (s.taken ≤ s.count)
  known_run = (genuine_within is, is.run.not_past)

  pub known_next : s.taken < s.count
      → s.numerators ≡ point_at s.family s.axes s.bases s.directions (λ i. index_at (run_of s.starts s.count) i s.taken)
  known_next h = genuine_current is h

  -- the same as the run's point
  pub known_point : s.taken < s.count → s.numerators ≡ padded 6 (run_point (plan_in s) (run_in s) s.taken)
  known_point h = known_next h ∙ holds_step (genuine_holds is) is.valid (run_in s) known_starts s.taken

  -- the next point of any run, by the state's arrays and the run's starts with zeros after them
  pub next_of : (r : Run) {starts : List ℕ} → starts ≡ padded 6 r.starts → (taken : ℕ)
      → cond (ltb taken r.count) (point_at s.family s.axes s.bases s.directions (λ i. index_at (run_of starts r.count) i taken)) (replicate 6 0)
      ≡ next_point (plan_in s) r taken
  next_of r e taken = holds_next (genuine_holds is) is.valid r e taken

  -- the opening of a run that its plan takes
  pub known_opens : (r : Run) → in_range r ≡ true → has_starts s.family s.axes r.starts ≡ true → Opens (plan_in s) r
  known_opens r h k = record { is_in_range = h; has_starts_lem = rw (← (genuine_holds is).family_is, ← axes_are) k }

  pub known_has : {r : Run} → Opens (plan_in s) r → has_starts s.family s.axes r.starts ≡ true
  known_has {r} o =
      ap₂ (λ (family axes : ℕ). has_starts family axes r.starts) (genuine_holds is).family_is axes_are ∙ o.has_starts_lem

  -- from the indexes of a step on, each axis reads the run's
  pub from_step : (t : ℕ) (ns : List ℕ) → ns ≡ indexes_at (run_of s.starts s.count) t → (i k : ℕ) → i < s.axes
      → get_or ns i 0 + k ≡ index_at (run_in s) i (t + k)
  unfolding index_at
  from_step t ns e i k l =
      ap (λ (n : List ℕ). get_or n i 0 + k) e
      ∙ ap (λ (n : ℕ). n + k) (six_at (genuine_within is) s.count t i (omega (arith, axes_few)))
      ∙ add_assoc (get_or s.starts i 0) t k
      ∙ ap (λ (n : ℕ). n + (t + k)) (sym (get_or-take s.axes s.starts i 0 l))

  -- ---- one axis

  module _ (i : ℕ) (low : i < s.axes) (n : ℕ) where
    pub known_numerator : numerator_at s.family s.bases s.directions n i ≡ numerator_of (plan_in s) n i
    known_numerator = holds_numerator (genuine_holds is) is.valid n i low

    pub known_denominator : denominator_at s.family s.bases i ≡ denominator_of (plan_in s) i
    known_denominator = holds_denominator (genuine_holds is) is.valid i

    -- the numerator is below the denominator, and that below 2 ^ 40
    pub fraction_small : (numerator_of (plan_in s) n i < denominator_of (plan_in s) i) × (denominator_of (plan_in s) i < 2 ^ 40)
    fraction_small =
        let l : i < axis_count (plan_in s) = omega (arith, axes_are) in
        (numerator_of_lt (plan_in s) is.valid n i l, denominator_of_lt (plan_in s) is.valid i l)
