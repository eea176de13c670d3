-- The walk over a plan's arrays counts the plan's points, and the bound by them is the plan's, a word. Assumes nothing.
use mathlib.Core.Path.{◌≡◌, refl, sym, ap, ◌∙◌}
use mathlib.Core.Bool.{Bool}
use mathlib.Core.Logic.{⊎_elim}
use mathlib.Core.List.{List, [], ◌∷◌}
use Prim.Native.Nat.{ℕ, zero, suc, ◌+◌, ◌^◌, ◌≤◌, ◌<◌}
use native.Mathlib.Nat.{add-zero, le_of_suc-le-suc, eq-or-lt_of_le}
use native.Mathlib.Omega.{arith}
use lib.Dec.{eqb}
use lib.ListN.{length, get_or, length-append, get_or-append}
use lib.Seq.{get_or-append-add}
use borrow.Author.Tests.{ne_eqb}
use Rattle.numbers.specs.Count.{count}
use Rattle.numbers.specs.Digits.{product_to}
use Rattle.numbers.specs.Listed.{padded}
use Rattle.numbers.proofs.CountLaws.{count_ext}
use Rattle.numbers.proofs.EachLaws.{each_ext}
use Rattle.numbers.proofs.ListedLaws.{padded_at}
use Rattle.permutation.specs.Families.{image_of}
use Rattle.discrepancy.specs.Bound.{bound, halton_axes}
use Rattle.discrepancy.proofs.FitLaws.{bound_fits}
use Rattle.plan.specs.Plan.{Plan, halton, sobol, Valid}
use Rattle.points.specs.Point.{axis_count}
use Rattle.points.specs.Run.{Run, index_at, run_numerator}
use Rattle.points.specs.Arrays.{family_of, bases_array, directions_array}
use Rattle.points.proofs.ArrayLaws.{numerator_at_plan, denominator_at_plan}
use Rattle.window.specs.Counting.{Cut, no_cut, u_of, q_of, axis_inside, step_inside, inside_count, base_at, cut_axes, run_axes, bound_of, cut_at, cuts_of}
use Rattle.window.specs.Walking.{axis_inside_by, inside_from, bound_by}

-- ---- the cuts of a list of numbers

pub cuts_length : (w : List ℕ) (s : ℕ) → length (cuts_of w s) ≡ s
unfolding cuts_of
cuts_length w zero = refl
cuts_length w (suc s) = rw (length-append, cuts_length w s) (omega arith)

pub cuts_at : (w : List ℕ) (s i : ℕ) → i < s → get_or (cuts_of w s) i no_cut ≡ cut_at w i
unfolding cuts_of
cuts_at w zero i h = absurd (omega arith)
cuts_at w (suc s) i h =
    ⊎_elim
    (λ (e : i ≡ s).
    let k : i ≡ length (cuts_of w s) + 0 = e ∙ sym (add-zero s ∙ refl) ∙ ap (λ (n : ℕ). n + 0) (sym (cuts_length w s)) in
    rw k (get_or-append-add (cuts_of w s) (cut_at w s ∷ []) 0 no_cut) ∙ ap (cut_at w) (sym e))
    (λ l. get_or-append (cuts_of w s) (cut_at w s ∷ []) no_cut i (omega (arith, cuts_length w s)) ∙ cuts_at w s i l)
    (eq-or-lt_of_le (le_of_suc-le-suc h))

-- ---- the walk

module _ (p : Plan) (v : Valid p) (w : List ℕ) (r : Run) where
  axis_plan : (t i : ℕ) → i < axis_count p
      → axis_inside_by (family_of p) (bases_array p) (directions_array p) w (index_at r i t) i ≡ axis_inside p (cuts_of w (axis_count p)) r t i
  unfolding axis_inside_by axis_inside run_numerator
  axis_plan t i l = rw (cuts_at w (axis_count p) i l, numerator_at_plan p v (index_at r i t) i l, denominator_at_plan p v i) refl

  -- by the run's first indexes
  count_plan : (n : ℕ → ℕ) → ((i t : ℕ) → i < axis_count p → n i + t ≡ index_at r i t)
      → count (inside_from (family_of p) (bases_array p) (directions_array p) w (axis_count p) n) r.count ≡ inside_count p (cuts_of w (axis_count p)) r
  unfolding inside_count step_inside inside_from
  count_plan n same =
      count_ext (inside_from (family_of p) (bases_array p) (directions_array p) w (axis_count p) n) (step_inside p (cuts_of w (axis_count p)) r) r.count
      (λ t l.
      each_ext (λ i. by (n i + t) i) (axis_inside p (cuts_of w (axis_count p)) r t) (axis_count p)
      (λ i h. ap (λ (k : ℕ). by k i) (same i t h) ∙ axis_plan t i h))
    where
      by : ℕ → ℕ → Bool
      by = axis_inside_by (family_of p) (bases_array p) (directions_array p) w

-- ---- the axes

-- zeros behind the bases change no axis
pub axes_padded : (family : ℕ) (bases : List ℕ) (w : List Cut) (r : Run) → run_axes family (padded 6 bases) w r ≡ run_axes family bases w r
unfolding cut_axes
axes_padded family bases w r =
    ap (λ (b : ℕ → ℕ). halton_axes (λ i. image_of family (b i)) b (λ i. index_at r i 0) 1 (u_of w) (q_of w)) (λ j i. padded_at 6 bases i j)

-- ---- the bound

bound_padded : (bases : List ℕ) (N s : ℕ) → bound (base_at (padded 6 bases)) s N ≡ bound (base_at bases) s N
unfolding product_to
bound_padded bases N zero = refl
bound_padded bases N (suc s) = rw (bound_padded bases N s, padded_at 6 bases s) refl

bound_plan : (p : Plan) → Valid p → (N : ℕ) → bound_by (eqb (family_of p) 2) (bases_array p) N (axis_count p) ≡ bound_of p N
unfolding Valid family_of bases_array axis_count bound_by bound_of
bound_plan (halton family bases) v N = rw (ne_eqb family 2 v.0.1) (bound_padded bases N (length bases))
bound_plan (sobol axes) v N = refl

pub bound_of_fits : (p : Plan) → Valid p → (N : ℕ) → N ≤ 2 ^ 32 → bound_of p N < 2 ^ 63
unfolding Valid bound_of
bound_of_fits (halton family bases) v N h = bound_fits N (base_at bases) h (length bases) v.1.1 (λ i l. (v.2.low i l, v.2.high i l))
bound_of_fits (sobol axes) v N h = omega arith

-- arrays that are a plan's
module _ (p : Plan) {family axes : ℕ} {bases : List ℕ} (f : family ≡ family_of p) (a : axes ≡ axis_count p) (b : bases ≡ bases_array p) (v : Valid p) where
  pub count_held : {vs : List ℕ} → vs ≡ directions_array p → (w : List ℕ) (r : Run) (n : ℕ → ℕ) → ((i t : ℕ) → i < axis_count p → n i + t ≡ index_at r i t)
      → count (inside_from family bases vs w axes n) r.count ≡ inside_count p (cuts_of w (axis_count p)) r
  count_held d w r n same = rw (f, a, b, d) (count_plan p v w r n same)

  pub bound_held : (N : ℕ) → bound_by (eqb family 2) bases N axes ≡ bound_of p N
  bound_held N = rw (f, a, b) (bound_plan p v N)
