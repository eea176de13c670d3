-- A run of a plan's axes, held in rows and a table of images in some order: its steps are one class, and as many of them are inside as of the run.
-- Assumes nothing.
use mathlib.Core.Path.{◌≡◌, refl, ap, ◌∙◌}
use mathlib.Core.List.{List}
use Prim.Native.Nat.{ℕ, ◌+◌, ◌*◌, ◌^◌, ◌<◌, ◌≤◌}
use native.Mathlib.Omega.{arith}
use lib.ListN.{length, get_or}
use Rattle.numbers.specs.Count.{count}
use Rattle.numbers.specs.Cut.{below_cut}
use Rattle.numbers.specs.Depth.{depth, denominator}
use Rattle.numbers.proofs.CountLaws.{count_ext}
use Rattle.numbers.proofs.EachLaws.{each_ext}
use Rattle.numbers.proofs.NumeratorLaws.{numerator_ext}
use Rattle.permutation.specs.Families.{image_of}
use Rattle.permutation.proofs.FamilyLaws.{image_permutes}
use Rattle.halton.specs.Axis.{numerator}
use Rattle.discrepancy.specs.Bound.{CutAxis, in_cut, inside, halton_axes, axis_in}
use Rattle.points.specs.Arrays.{of_axis, Arrays, Within}
use Rattle.points.proofs.ArrayLaws.{numerator_by_base, denominator_by_base}
use Rattle.window.specs.Counting.{cut_axes, cut_at}
use Rattle.window.specs.Walking.{Room, axis_inside_by, inside_from}
use Rattle.strips.specs.Ends.{in_ends, ends_in, inside_ends, halton_ends}
use Rattle.strips.specs.Classes.{below_rest, within_rest, inside_along, base_in, image_from, table_axes, Digits, EndsAt, Held, Steps}
use Rattle.strips.proofs.RestLaws.{within_below}
use Rattle.strip_order.specs.Order.{Order, Bases}
use Rattle.strip_count.specs.Rows.{Rowed, Filled, Reached}

-- ---- the rows and the table

module _ {bases starts w order rows : List ℕ} {s : ℕ} (row : Rowed bases starts w order rows s) (o : Order s order) where
  -- the steps are one class
  pub run_steps : {r k : ℕ} → Reached starts s r k → k ≤ 2 ^ 32 → Steps rows s 0 r k
  run_steps h few =
      record {
        few = few;
        low = λ t l. omega (arith, h.low t l);
        at = λ t l. record { index = λ i b. omega (arith, (row.at i b).start, h.index (get_or order i 0) t (o.low i b) l) };
      }

  module _ (g : Bases s bases) where
    module _ {family : ℕ} {l : List ℕ} (f : Filled family bases order l s) where
      pub run_held : Room w s → 5 * s ≤ length rows → 256 * s ≤ length l → Held l rows s
      run_held room long space = record { long = long; ends = ends; digits = digits }
        where
          ends : (i : ℕ) → i < s → EndsAt rows i
          ends i b =
              let a = o.low i b in
              let r = row.at i b in
              let x = get_or order i 0 in
              record {
                l_small = omega (arith, r.lower);
                u_small = omega (arith, r.upper, room.u_small x a);
                q_pos = omega (arith, r.whole, room.q_pos x a);
                q_small = omega (arith, r.whole, room.q_small x a);
              }

          digits : (i : ℕ) → i < s → Digits l (256 * i) (base_in rows i)
          digits i b =
              let a = o.low i b in
              let x = get_or order i 0 in
              let p = image_permutes family (get_or bases x 0) (g.low x a) in
              rw (row.at i b).base
              (record {
                long = omega (arith, g.high x a);
                low = g.low x a;
                high = g.high x a;
                below = λ d k. rw (f.at i d b k) (p.below d k);
                first = f.at i 0 b (omega (arith, g.low x a)) ∙ p.zero_first;
              })

      -- row i is the axis that stands there in the order
      row_inside : (r t i : ℕ) → i < s → ends_in (table_axes l rows) (0 + r * t) i
          ≡ axis_in (cut_axes family bases (of_axis starts) r (cut_at w)) t (get_or order i 0)
      unfolding in_ends table_axes halton_ends halton_axes in_cut cut_axes within_rest below_rest numerator denominator
      row_inside r t i b =
          let x = get_or order i 0 in
          let base = get_or bases x 0 in
          let c = cut_at w x in
          let n = get_or starts x 0 + r * t in
          let index : get_or starts x 0 + 1 * (0 + r * t) ≡ n = omega arith in
          let y = row.at i b in
          rw (y.base, y.start, y.lower, y.upper, y.whole, index)
          (within_below (image_from l (256 * i)) base c.q c.u n
          ∙ ap (λ (z : ℕ). below_cut z (base ^ depth base) c.u c.q)
          (numerator_ext (image_from l (256 * i)) (image_of family base) base (depth base) n (omega (arith, g.low x (o.low i b)))
          (λ d k. f.at i d b k)))

      pub run_counted : (r k : ℕ) → count (inside_along (table_axes l rows) s 0 r) k
          ≡ count (inside (cut_axes family bases (of_axis starts) r (cut_at w)) s) k
      unfolding inside_along inside_ends inside
      run_counted r k =
          let ax = cut_axes family bases (of_axis starts) r (cut_at w) in
          count_ext (inside_along (table_axes l rows) s 0 r) (inside ax s) k
          (λ t h.
          each_ext (ends_in (table_axes l rows) (0 + r * t)) (λ i. axis_in ax t (get_or order i 0)) s (row_inside r t)
          ∙ o.same (axis_in ax t))

-- ---- stride 1

pub one_reached : {ns : List ℕ} {s k : ℕ} → Within ns k → Reached ns s 1 k
one_reached h = record { low = λ t l. omega (arith, h.at 0); index = λ i t b l. omega (arith, h.at i) }

-- such a run is the one that is walked
pub one_stride : (family : ℕ) (bases vs w : List ℕ) (n : ℕ → ℕ) (s : ℕ) → (family ≡ 2 → ⊥) → (k : ℕ)
    → count (inside (cut_axes family bases n 1 (cut_at w)) s) k ≡ count (inside_from family bases vs w s n) k
unfolding inside inside_from in_cut cut_axes halton_axes axis_inside_by numerator denominator
one_stride family bases vs w n s halton k =
    count_ext (inside ax s) (inside_from family bases vs w s n) k
    (λ t h. each_ext (axis_in ax t) (λ i. axis_inside_by family bases vs w (n i + t) i) s (axis t))
  where
    ax : ℕ → CutAxis
    ax = cut_axes family bases n 1 (cut_at w)

    axis : (t i : ℕ) → i < s → axis_in ax t i ≡ axis_inside_by family bases vs w (n i + t) i
    axis t i b =
        let index : n i + 1 * t ≡ n i + t = omega arith in
        rw (← numerator_by_base family bases vs (n i + t) i halton, ← denominator_by_base family bases i halton, index) refl

pub arrays_bases : {family axes : ℕ} {bases vs : List ℕ} → Arrays family axes bases vs → (family ≡ 2 → ⊥) → Bases axes bases
arrays_bases a f =
    record { few = a.few; long = omega (arith, a.few, a.bases_long); low = λ i h. a.base_low i h f; high = λ i h. a.base_high i h f }
