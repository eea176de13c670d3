-- A plan's arrays: those of a valid plan are what the functions on arrays ask, and the points by them are the plan's points. Assumes nothing.
use mathlib.Core.Path.{◌≡◌, refl, sym, ap, ◌∙◌}
use mathlib.Core.Logic.{⊎_elim}
use mathlib.Core.List.{List, [], ◌∷◌, ◌++◌, append_assoc}
use Prim.Native.Nat.{ℕ, zero, suc, ◌+◌, ◌-◌, ◌*◌, ◌^◌, ◌<◌, ◌≤◌}
use native.Mathlib.Nat.{min-le_left}
use native.Mathlib.Omega.{arith}
use borrow.Author.Tests.{eq-eqb, ne_eqb}
use lib.ListN.{length, take, drop, get_or, replicate, length-append, length-take, get_or-append, get_or-eq_default}
use lib.Seq.{take_at, drop_at, drop-drop, get_or-append-add, get_or-take, get_or-drop}
use Rattle.numbers.specs.Depth.{denominator}
use Rattle.numbers.specs.Listed.{listed, padded}
use Rattle.numbers.proofs.Cases.{lt_or_ge, eq_or_ne}
use Rattle.numbers.proofs.DepthLaws.{denominator_lt}
use Rattle.numbers.proofs.ListedLaws.{padded_length, padded_at, zeros_at, listed_same}
use Rattle.permutation.specs.Families.{image_of}
use Rattle.halton.specs.Axis.{numerator}
use Rattle.halton.proofs.ImageLaws.{image_digits}
use Rattle.halton.proofs.AxisLaws.{numerator_below}
use Rattle.sobol.specs.Stepping.{stepped}
use Rattle.sobol.proofs.DirectionLaws.{directions_length}
use Rattle.sobol.proofs.SteppingLaws.{stepped_lt}
use Rattle.plan.specs.Plan.{Axis, no_axis, ValidAxis, Plan, halton, sobol, Valid}
use Rattle.points.specs.Point.{axis_count, axis_directions, denominator_of, numerator_of, point_of}
use Rattle.points.specs.Arrays.{family_of, bases_array, directions_in, directions_array, directions_at, numerator_by, numerator_at, point_at, denominator_by, denominator_at, BaseAt, AxisAt, Arrays}
use Rattle.points.specs.Run.{Run, index_at, run_numerator, run_point}
use Rattle.points.proofs.PointLaws.{axis_directions_lt}

-- ---- the direction numbers of several axes

axis_directions_length : (x : Axis) → length (axis_directions x) ≡ 32
axis_directions_length x = directions_length (length x.ms) x.polynomial x.ms

directions_in_length : (axes : List Axis) → length (directions_in axes) ≡ 32 * length axes
unfolding directions_in
directions_in_length [] = refl
directions_in_length (x ∷ axes) =
    rw (length-append, axis_directions_length x, directions_in_length axes) (omega arith)

directions_in_lt : (axes : List Axis) → ((i : ℕ) → i < length axes → ValidAxis (get_or axes i no_axis)) → (j : ℕ)
    → get_or (directions_in axes) j 0 < 2 ^ 32
unfolding directions_in
directions_in_lt [] v j = omega arith
directions_in_lt (x ∷ axes) v j =
    ⊎_elim
    (λ h. rw (get_or-append (axis_directions x) (directions_in axes) 0 j h) (axis_directions_lt x (v 0 (omega arith)) j))
    (λ h.
    let k = length (axis_directions x) in
    let e : j ≡ k + (j - k) = omega arith in
    rw (e, get_or-append-add (axis_directions x) (directions_in axes) (j - k) 0)
    (directions_in_lt axes (λ i l. v (suc i) (omega arith)) (j - k)))
    (lt_or_ge j (length (axis_directions x)))

-- those of axis i stand at 32 i, whatever comes after the last axis
pub directions_in_at : (axes : List Axis) (rest : List ℕ) (i : ℕ) → i < length axes
    → directions_at (directions_in axes ++ rest) i ≡ axis_directions (get_or axes i no_axis)
unfolding directions_in
directions_in_at [] rest i h = absurd (omega arith)
directions_in_at (x ∷ axes) rest zero h =
    rw append_assoc (take_at (axis_directions x) (directions_in axes ++ rest) 32 (axis_directions_length x))
directions_in_at (x ∷ axes) rest (suc i) h =
    let e : 32 * suc i ≡ 32 + 32 * i = omega arith in
    rw (e, ← drop-drop (32 * i) 32, append_assoc, drop_at (axis_directions x) (directions_in axes ++ rest) 32 (axis_directions_length x))
    (directions_in_at axes rest i (omega arith))

-- ---- a valid plan's arrays

pub arrays_of : (p : Plan) → Valid p → Arrays (family_of p) (axis_count p) (bases_array p) (directions_array p)
unfolding Valid family_of axis_count bases_array directions_array
arrays_of (halton family bases) v =
    record {
      few = v.1.1;
      bases_long = padded_length 6 bases v.1.1;
      directions_long = refl;
      base_low = λ i h f. rw (padded_at 6 bases i) (v.2.low i h);
      base_high = λ i h f. rw (padded_at 6 bases i) (v.2.high i h);
      directions_low = λ j. omega (arith, zeros_at 192 j);
    }
arrays_of (sobol axes) v =
    record {
      few = v.0.1;
      bases_long = refl;
      directions_long = padded_length 192 (directions_in axes) (omega (arith, directions_in_length axes));
      base_low = λ i h f. absurd (f refl);
      base_high = λ i h f. absurd (f refl);
      directions_low = λ j. rw (padded_at 192 (directions_in axes) j) (directions_in_lt axes v.1.valid j);
    }

-- ---- points by arrays

-- a part of small words has small words
part_lt : (m : ℕ) (l : List ℕ) → ((j : ℕ) → get_or l j 0 < 2 ^ 32) → (j : ℕ) → get_or (take m l) j 0 < 2 ^ 32
part_lt m l h j =
    ⊎_elim (λ k. rw (get_or-take m l j 0 k) (h j)) (λ k. omega (arith, get_or-eq_default (take m l) 0 {n = j} (omega (arith, length-take m l, min-le_left m (length l))))) (lt_or_ge j m)

-- the arrays at one axis
pub axis_at_lem : {family axes : ℕ} {bases vs : List ℕ} → Arrays family axes bases vs → (i : ℕ) → i < axes → AxisAt family bases vs i
axis_at_lem a i h = record {
  base = record { reach = omega (arith, a.few, a.bases_long); low = a.base_low i h; high = a.base_high i h };
  reach = omega (arith, a.few, a.directions_long);
  directions_low = a.directions_low;
}

pub base_range : {family axes : ℕ} {bases vs : List ℕ} → Arrays family axes bases vs → (i : ℕ) → i < axes → (family ≡ 2 → ⊥)
    → (2 ≤ get_or bases i 0) × (get_or bases i 0 ≤ 256)
base_range a i h f = (a.base_low i h f, a.base_high i h f)

module _ (family : ℕ) (bases vs : List ℕ) where
  -- the code's part of the direction numbers, from 32 i to 32 i + 32
  pub numerator_by_part : (n i : ℕ) → family ≡ 2 → stepped (take (32 * i + 32 - 32 * i) (drop (32 * i) vs)) n ≡ numerator_at family bases vs n i
  unfolding numerator_at numerator_by
  numerator_by_part n i e =
      let k : 32 * i + 32 - 32 * i ≡ 32 = omega arith in
      rw (k, eq-eqb family 2 e)

  pub numerator_by_base : (n i : ℕ) → (family ≡ 2 → ⊥)
      → numerator (image_of family (get_or bases i 0)) (get_or bases i 0) n ≡ numerator_at family bases vs n i
  unfolding numerator_at numerator_by
  numerator_by_base n i f = rw (ne_eqb family 2 f)

pub denominator_by_two : (family : ℕ) (bases : List ℕ) (i : ℕ) → family ≡ 2 → 2 ^ 32 ≡ denominator_at family bases i
unfolding denominator_at denominator_by
denominator_by_two family bases i e = rw (eq-eqb family 2 e)

pub denominator_by_base : (family : ℕ) (bases : List ℕ) (i : ℕ) → (family ≡ 2 → ⊥) → denominator (get_or bases i 0) ≡ denominator_at family bases i
unfolding denominator_at denominator_by
denominator_by_base family bases i f = rw (ne_eqb family 2 f)

pub denominator_at_lt : {family : ℕ} {bases : List ℕ} {i : ℕ} → BaseAt family bases i → denominator_at family bases i < 2 ^ 40
denominator_at_lt {family} {bases} {i} a =
    ⊎_elim
    (λ e. omega (arith, denominator_by_two family bases i e))
    (λ f. omega (arith, denominator_by_base family bases i f, denominator_lt (get_or bases i 0) (a.low f) (a.high f)))
    (eq_or_ne family 2)

module _ {family : ℕ} {bases vs : List ℕ} {i : ℕ} (a : AxisAt family bases vs i) where
  pub numerator_at_lt : (n : ℕ) → numerator_at family bases vs n i < denominator_at family bases i
  numerator_at_lt n =
      ⊎_elim
      (λ e. rw (← numerator_by_part family bases vs n i e, ← denominator_by_two family bases i e) (stepped_lt 32 _ part_low n))
      (λ f. rw (← numerator_by_base family bases vs n i f, ← denominator_by_base family bases i f) (numerator_below (image_digits family (get_or bases i 0) (a.base.low f)) (omega (arith, a.base.low f)) n))
      (eq_or_ne family 2)
    where
      part_low : (j : ℕ) → get_or (take (32 * i + 32 - 32 * i) (drop (32 * i) vs)) j 0 < 2 ^ 32
      part_low j = part_lt (32 * i + 32 - 32 * i) (drop (32 * i) vs) (λ k. rw (get_or-drop (32 * i) vs k 0) (a.directions_low (32 * i + k))) j

-- ---- they are the plan's

pub numerator_at_plan : (p : Plan) → Valid p → (n i : ℕ) → i < axis_count p
    → numerator_at (family_of p) (bases_array p) (directions_array p) n i ≡ numerator_of p n i
unfolding Valid family_of axis_count bases_array directions_array numerator_at numerator_by numerator_of padded
numerator_at_plan (halton family bases) v n i h =
    sym (numerator_by_base family (padded 6 bases) (replicate 192 0) n i v.0.1) ∙ rw (padded_at 6 bases i) refl
numerator_at_plan (sobol axes) v n i h =
    ap (λ (l : List ℕ). stepped l n) (directions_in_at axes (replicate (192 - length (directions_in axes)) 0) i h)

pub denominator_at_plan : (p : Plan) → Valid p → (i : ℕ) → denominator_at (family_of p) (bases_array p) i ≡ denominator_of p i
unfolding Valid family_of bases_array denominator_of
denominator_at_plan (halton family bases) v i =
    sym (denominator_by_base family (padded 6 bases) i v.0.1) ∙ ap denominator (padded_at 6 bases i)
denominator_at_plan (sobol axes) v i = sym (denominator_by_two 2 (replicate 6 0) i refl)

module _ (p : Plan) (v : Valid p) where
  pub listed_at_plan : (n : ℕ)
      → listed (numerator_at (family_of p) (bases_array p) (directions_array p) n) (axis_count p) ≡ point_of p n
  unfolding point_of
  listed_at_plan n = listed_same _ _ (axis_count p) (numerator_at_plan p v n)

  pub point_at_plan : (n : ℕ) → point_at (family_of p) (axis_count p) (bases_array p) (directions_array p) (λ i. n) ≡ padded 6 (point_of p n)
  unfolding point_at
  point_at_plan n = ap (padded 6) (listed_at_plan n)

  -- the point of a run's step
  pub point_at_step : (r : Run) (t : ℕ)
      → point_at (family_of p) (axis_count p) (bases_array p) (directions_array p) (λ i. index_at r i t) ≡ padded 6 (run_point p r t)
  unfolding point_at run_point run_numerator
  point_at_step r t = ap (padded 6) (listed_same _ _ (axis_count p) (λ i. numerator_at_plan p v (index_at r i t) i))
