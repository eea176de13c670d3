-- The walk over a run held in arrays: what an axis leaves of the flags, and what parts of a run add up to. Assumes nothing.
use mathlib.Core.Path.{◌≡◌, refl, ap, ◌∙◌}
use mathlib.Core.Bool.{Bool, true, false, ◌&&◌, cond}
use mathlib.Core.List.{List}
use Prim.Native.Nat.{ℕ, ◌+◌, ◌-◌, ◌*◌, ◌/◌, ◌≤◌, ◌<◌}
use native.Mathlib.Nat.{add-mul, le-div_iff_mul-le}
use native.Mathlib.Numerals.{add-one}
use native.Mathlib.Omega.{arith}
use lib.Dec.{ltb}
use lib.ListN.{length, take, drop, get_or, replicate, get_or-replicate}
use Rattle.numbers.specs.Count.{bit, count, each}
use Rattle.numbers.specs.Cut.{below_cut}
use Rattle.numbers.proofs.Cases.{lt_iff}
use Rattle.numbers.proofs.CountLaws.{count_ext, count_parts}
use Rattle.numbers.proofs.EachLaws.{each_ext}
use Rattle.marks.specs.Marking.{Marked}
use Rattle.sobol_tables.specs.Tables.{Directions}
use Rattle.points.specs.Arrays.{numerator_at, numerator_from, denominator_at, AxisAt}
use Rattle.points.proofs.ArrayLaws.{numerator_at_lt, numerator_by_part, denominator_by_two}
use Rattle.window.specs.Counting.{cut_at}
use Rattle.window.specs.Walking.{axis_inside_by, inside_from}
use Rattle.inside_count.specs.Flagging.{cut_limit, Flags}

-- ---- the direction numbers of an axis

-- the code's part of the array has 32 of them, and every point by them is below the denominator
pub directions_of : {family : ℕ} {bases vs : List ℕ} {i : ℕ} → AxisAt family bases vs i → family ≡ 2
    → length (take (32 * i + 32 - 32 * i) (drop (32 * i) vs)) ≡ 32 → Directions (take (32 * i + 32 - 32 * i) (drop (32 * i) vs))
directions_of {family} {bases} {vs} {i} a e k = record {
  long = k;
  low = λ n. omega (arith, numerator_at_lt a n, numerator_by_part family bases vs n i e, denominator_by_two family bases i e);
}

-- ---- flags

-- below the limit is below the cut
pub limit_cut : (x d u q : ℕ) → 1 ≤ q → ltb x (cut_limit u q d) ≡ below_cut x d u q
unfolding cut_limit below_cut
limit_cut x d u q pos = lt_iff x ((u * d + (q - 1)) / q) (x * q) (u * d) (λ h. there h) (λ h. back h)
  where
    there : x < (u * d + (q - 1)) / q → x * q < u * d
    there h = omega (arith, (le-div_iff_mul-le {k = q} {x = x + 1} {y = u * d + (q - 1)} pos).0 (omega arith), add-mul x 1 q)

    back : x * q < u * d → x < (u * d + (q - 1)) / q
    back h = omega (arith, (le-div_iff_mul-le {k = q} {x = x + 1} {y = u * d + (q - 1)} pos).1 (omega (arith, add-mul x 1 q)))

keep_bit : (a b : Bool) → cond b (bit a) 0 ≡ bit (a && b)
keep_bit true true = refl
keep_bit true false = refl
keep_bit false true = refl
keep_bit false false = refl

module _ (family : ℕ) (bases vs w : List ℕ) (n : ℕ → ℕ) where
  -- no axis yet
  pub flags_none : (m : ℕ) → m ≤ 4096 → Flags (inside_from family bases vs w 0 n) m (replicate 4096 1)
  unfolding inside_from each
  flags_none m h = record { at = λ i l. get_or-replicate 4096 i 1 0 (omega arith) }

  -- one axis more
  pub flags_more : (s m limit : ℕ) (l new : List ℕ) → Flags (inside_from family bases vs w s n) m l
      → Marked (numerator_from family bases vs (n s) s) limit 0 m l new
      → limit ≡ cut_limit (cut_at w s).u (cut_at w s).q (denominator_at family bases s) → 1 ≤ (cut_at w s).q → Flags (inside_from family bases vs w (s + 1) n) m new
  unfolding inside_from each axis_inside_by numerator_from
  flags_more s m limit l new f k e pos = record { at = one }
    where
      one : (i : ℕ) → i < m → get_or new i 0 ≡ bit (each (λ a. axis_inside_by family bases vs w (n a + i) a) (s + 1))
      one i h =
          let x = numerator_at family bases vs (n s + i) s in
          let d = denominator_at family bases s in
          let c = cut_at w s in
          k.tested i (omega arith) h
          ∙ rw (f.at i h, e, limit_cut x d c.u c.q pos, add-one s)
          (keep_bit (each (λ a. axis_inside_by family bases vs w (n a + i) a) s) (below_cut x d c.u c.q))

  -- ---- parts of a run

  -- the second reads on from i places after each index
  pub parts_join : (s i m : ℕ) (next : ℕ → ℕ) → ((a : ℕ) → a < s → next a ≡ n a + i)
      → count (inside_from family bases vs w s n) (i + m) ≡ count (inside_from family bases vs w s n) i + count (inside_from family bases vs w s next) m
  unfolding inside_from
  parts_join s i m next on =
      count_parts (inside_from family bases vs w s n) i m
      ∙ ap (λ (k : ℕ). count (inside_from family bases vs w s n) i + k)
      (count_ext (λ j. inside_from family bases vs w s n (i + j)) (inside_from family bases vs w s next) m
      (λ j l.
      each_ext (λ a. axis_inside_by family bases vs w (n a + (i + j)) a) (λ a. axis_inside_by family bases vs w (next a + j) a) s
      (λ a h. ap (λ (k : ℕ). axis_inside_by family bases vs w k a) (omega (arith, on a h)))))

pub count_none : (p : ℕ → Bool) → 0 ≡ count p 0
unfolding count
count_none p = refl

-- one flag more
pub count_more : (p : ℕ → Bool) (i : ℕ) → count p (i + 1) ≡ count p i + bit (p i)
unfolding count
count_more p i = rw add-one refl
