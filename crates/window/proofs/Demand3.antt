-- Demand 3 for plans: of any run of a valid Halton-family plan that is opened, as many points are inside as the window's share, to within the
-- bound. The run's axes are those of the discrepancy theorem, each with its own start, and stride 1. Assumes nothing.
use mathlib.Core.Path.{◌≡◌, refl}
use mathlib.Core.List.{List}
use Prim.Native.Nat.{ℕ, ◌+◌, ◌*◌}
use native.Mathlib.Nat.{eq-one_of_dvd-one}
use native.Mathlib.Omega.{arith}
use lib.ListN.{length}
use Rattle.numbers.specs.Count.{count}
use Rattle.numbers.specs.Depth.{denominator}
use Rattle.numbers.proofs.CountLaws.{count_ext}
use Rattle.numbers.proofs.EachLaws.{each_ext}
use Rattle.permutation.specs.Families.{image_of}
use Rattle.permutation.proofs.FamilyLaws.{image_permutes}
use Rattle.halton.specs.Axis.{numerator}
use Rattle.discrepancy.specs.Bound.{axis_in, in_cut, inside, Near, SoundAxes, halton_axes, HaltonRun}
use Rattle.discrepancy.proofs.BoundLaws.{halton_sound, halton_near}
use Rattle.plan.specs.Plan.{halton, Valid}
use Rattle.points.specs.Point.{axis_count, numerator_of, denominator_of}
use Rattle.points.specs.Run.{Run, index_at, Opens, run_numerator}
use Rattle.points.proofs.RunLaws.{opens_low}
use Rattle.window.specs.Counting.{Cut, u_of, q_of, u_product, q_product, axis_inside, step_inside, inside_count, base_at, cut_axes, run_axes, bound_of, Cuts}

module _ (family : ℕ) (bases : List ℕ) (w : List Cut) (r : Run) where
  -- from an axis's first index on by steps of 1
  stride_one : (i t : ℕ) → index_at r i 0 + 1 * t ≡ index_at r i t
  unfolding index_at
  stride_one i t = omega arith

  same_axis : (t i : ℕ) → axis_in (run_axes family bases w r) t i ≡ axis_inside (halton family bases) w r t i
  unfolding cut_axes halton_axes in_cut axis_inside run_numerator numerator_of denominator_of numerator denominator
  same_axis t i = rw (stride_one i t) refl

  -- S by the run's axes
  pub inside_axes : count (inside (run_axes family bases w r) (length bases)) r.count ≡ inside_count (halton family bases) w r
  unfolding inside_count step_inside axis_count inside
  inside_axes =
      count_ext (inside (run_axes family bases w r) (length bases)) (step_inside (halton family bases) w r) r.count
      (λ t l. each_ext (axis_in (run_axes family bases w r) t) (axis_inside (halton family bases) w r t) (length bases) (λ i m. same_axis t i))

  module _ (v : Valid (halton family bases)) (o : Opens (halton family bases) r) (cuts : Cuts w (length bases)) where
    run_meets : HaltonRun r.count (length bases) (λ i. image_of family (base_at bases i)) (base_at bases) (λ i. index_at r i 0) 1 (u_of w) (q_of w)
    unfolding Valid axis_count
    run_meets =
        record {
          base_big = v.2.low;
          permutes = λ i l. image_permutes family (base_at bases i) (v.2.low i l);
          coprime = v.2.coprime;
          stride_coprime = λ i l d p q. eq-one_of_dvd-one p;
          index = λ i t l m. omega (arith, stride_one i t, opens_low o i t l m);
          q_pos = cuts.q_pos;
          u_le = cuts.u_le;
        }

    pub axes_sound : SoundAxes r.count (run_axes family bases w r) (length bases)
    unfolding cut_axes
    axes_sound =
        halton_sound r.count (length bases) (λ i. image_of family (base_at bases i)) (base_at bases) (λ i. index_at r i 0) 1 (u_of w) (q_of w) run_meets

    -- For every accepted plan of a Halton family (0, 1 or 3), every run that is opened, with any start on each axis, and every cut u / q with
    -- q ≥ 1 and 0 ≤ u ≤ q on each axis: the size of S × Q - N × U is less than bound × Q.
    pub demand_3 : Near r.count (inside_count (halton family bases) w r) (u_product w (length bases)) (q_product w (length bases))
        (bound_of (halton family bases) r.count)
    unfolding cut_axes bound_of
    demand_3 =
        rw (← inside_axes)
        (halton_near r.count (length bases) (λ i. image_of family (base_at bases i)) (base_at bases) (λ i. index_at r i 0) 1 (u_of w) (q_of w) run_meets)
