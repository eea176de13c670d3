-- The ends of a window's count: the whole of every axis, nothing of some axis, a run of no points. Assumes nothing.
use mathlib.Core.Path.{◌≡◌, refl, ◌∙◌}
use mathlib.Core.Bool.{true, false}
use mathlib.Core.List.{List}
use Prim.Native.Nat.{ℕ, zero, suc, ◌-◌, ◌*◌, ◌<◌}
use native.Mathlib.Nat.{zero-mul}
use native.Mathlib.Omega.{arith}
use lib.ListN.{length, get_or}
use borrow.Author.Tests.{le-ltb}
use Rattle.numbers.specs.Count.{count}
use Rattle.numbers.specs.Cut.{below_cut}
use Rattle.numbers.specs.Digits.{digit_count_in, digit_count, product_to}
use Rattle.numbers.proofs.CountLaws.{count_ext, count_all, count_none}
use Rattle.numbers.proofs.EachLaws.{each_all, each_fail}
use Rattle.discrepancy.specs.Bound.{factor, bound}
use Rattle.discrepancy.proofs.CutLaws.{below_cut_one}
use Rattle.plan.specs.Plan.{Plan, halton, Valid}
use Rattle.points.specs.Point.{axis_count, numerator_of, denominator_of}
use Rattle.points.specs.Run.{Run, run_of, index_at, run_numerator}
use Rattle.points.proofs.PointLaws.{numerator_of_lt}
use Rattle.window.specs.Counting.{Cut, u_of, q_of, axis_inside, step_inside, inside_count, base_at, bound_of}

-- nothing lies below the cut 0
below_cut_none : (x d u q : ℕ) → u ≡ 0 → below_cut x d u q ≡ false
unfolding below_cut
below_cut_none x d u q e = rw e (le-ltb (x * q) (0 * d) (omega arith))

module _ (p : Plan) (w : List Cut) (r : Run) where
  -- u = q on every axis: every point is inside
  pub count_whole : Valid p → ((i : ℕ) → i < axis_count p → 0 < q_of w i) → ((i : ℕ) → i < axis_count p → u_of w i ≡ q_of w i)
      → inside_count p w r ≡ r.count
  unfolding inside_count step_inside
  count_whole v pos same =
      count_ext (step_inside p w r) (λ t. true) r.count (λ t l. each_all (axis_inside p w r t) (axis_count p) (whole t)) ∙ count_all r.count
    where
      whole : (t i : ℕ) → i < axis_count p → axis_inside p w r t i ≡ true
      whole t i l =
          unfold axis_inside run_numerator in
          rw (same i l) (below_cut_one (numerator_of p (index_at r i t) i) (denominator_of p i) (q_of w i) (numerator_of_lt p v (index_at r i t) i l) (pos i l))

  -- u = 0 on some axis: no point is inside
  pub count_empty : (i : ℕ) → i < axis_count p → u_of w i ≡ 0 → inside_count p w r ≡ 0
  unfolding inside_count step_inside axis_inside
  count_empty i l e =
      count_none (step_inside p w r) r.count
      (λ t. each_fail (axis_inside p w r t) (axis_count p) i l (below_cut_none (run_numerator p r t i) (denominator_of p i) (u_of w i) (q_of w i) e))

-- a run of no points has none inside
pub count_of_none : (p : Plan) (w : List Cut) (starts : List ℕ) → inside_count p w (run_of starts 0) ≡ 0
unfolding inside_count count
count_of_none p w starts = refl

-- and the bound 1
bound_over_none : (bases : List ℕ) (s : ℕ) → bound (base_at bases) s 0 ≡ 1
unfolding product_to factor digit_count digit_count_in
bound_over_none bases zero = refl
bound_over_none bases (suc s) = rw (bound_over_none bases s, zero-mul (get_or bases s 0 - 1)) refl

pub bound_of_none : (family : ℕ) (bases : List ℕ) → bound_of (halton family bases) 0 ≡ 1
unfolding bound_of
bound_of_none family bases = bound_over_none bases (length bases)
