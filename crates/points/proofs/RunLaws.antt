-- Runs: which are opened, their parts, and those with one start for all axes, whose points are those of the indexes from the start on. Assumes
-- nothing.
use mathlib.Core.Path.{◌≡◌, refl, sym, ap, ◌∙◌}
use mathlib.Core.Bool.{true, false, not, ◌||◌, and-eq-true_iff}
use mathlib.Core.Logic.{⊎_elim}
use mathlib.Core.List.{List, append-nil}
use Prim.Native.Nat.{ℕ, ◌+◌, ◌-◌, ◌^◌, ◌<◌, ◌≤◌}
use native.Mathlib.Nat.{add_assoc}
use native.Mathlib.Omega.{arith}
use lib.Dec.{leb, eqb}
use lib.ListN.{length, get_or, replicate, length-replicate, get_or-replicate, get_or-eq_default}
use lib.Seq.{ext_get_or}
use borrow.Author.Tests.{leb-true, le-leb, lt-leb, eq-eqb, ne_eqb, eqb-true}
use Rattle.numbers.specs.Count.{each}
use Rattle.numbers.specs.Listed.{listed, padded}
use Rattle.numbers.proofs.Cases.{lt_or_ge, eq_or_ne}
use Rattle.numbers.proofs.EachLaws.{each_at, each_all, each_fail}
use Rattle.numbers.proofs.ListedLaws.{listed_length, listed_at, listed_same, zeros_at, padded_length, padded_at}
use Rattle.plan.specs.Plan.{Plan, Valid}
use Rattle.points.specs.Point.{axis_count, numerator_of, point_of}
use Rattle.points.specs.Arrays.{family_of, Within}
use Rattle.points.specs.Run.{Run, run_of, one_start, index_at, indexes_at, part_of, start_in_range, in_range, same_starts, has_starts, Opens, run_numerator, run_point}
use Rattle.points.proofs.PointLaws.{axis_count_lem}

-- ---- the range of one start

module _ (start count : ℕ) where
  pub start_is : start_in_range start count ≡ true → start + count ≤ 2 ^ 32
  unfolding start_in_range
  start_is e = leb-true (start + count) (2 ^ 32) e

  is_start : start + count ≤ 2 ^ 32 → start_in_range start count ≡ true
  unfolding start_in_range
  is_start h = le-leb (start + count) (2 ^ 32) h

  pub not_start : 2 ^ 32 < start + count → start_in_range start count ≡ false
  unfolding start_in_range
  not_start h = lt-leb (start + count) (2 ^ 32) h

  -- by what the start leaves
  pub start_left : start ≤ 2 ^ 32 → leb count (2 ^ 32 - start) ≡ start_in_range start count
  unfolding start_in_range
  start_left h =
      ⊎_elim (λ l. lt-leb count (2 ^ 32 - start) l ∙ sym (lt-leb (start + count) (2 ^ 32) (omega arith)))
      (λ l. le-leb count (2 ^ 32 - start) l ∙ sym (le-leb (start + count) (2 ^ 32) (omega arith)))
      (lt_or_ge (2 ^ 32 - start) count)

-- ---- of a run

module _ (r : Run) where
  pub range_by : each (λ i. start_in_range (get_or r.starts i 0) r.count) (length r.starts) ≡ in_range r
  unfolding in_range
  range_by = refl

  pub range_at : in_range r ≡ true → (i : ℕ) → i < length r.starts → get_or r.starts i 0 + r.count ≤ 2 ^ 32
  unfolding in_range
  range_at e i h =
      start_is (get_or r.starts i 0) r.count (each_at (λ k. start_in_range (get_or r.starts k 0) r.count) (length r.starts) i e h)

  range_all : ((i : ℕ) → i < length r.starts → start_in_range (get_or r.starts i 0) r.count ≡ true) → in_range r ≡ true
  unfolding in_range
  range_all h = each_all (λ k. start_in_range (get_or r.starts k 0) r.count) (length r.starts) h

  pub range_off : (i : ℕ) → i < length r.starts → start_in_range (get_or r.starts i 0) r.count ≡ false → in_range r ≡ false
  unfolding in_range
  range_off i h e = each_fail (λ k. start_in_range (get_or r.starts k 0) r.count) (length r.starts) i h e

-- ---- one start for each axis

module _ (starts : List ℕ) where
  pub same_by : each (λ i. eqb (get_or starts i 0) (get_or starts 0 0)) (length starts) ≡ same_starts starts
  unfolding same_starts
  same_by = refl

  same_at : same_starts starts ≡ true → (i : ℕ) → i < length starts → get_or starts i 0 ≡ get_or starts 0 0
  unfolding same_starts
  same_at e i h =
      eqb-true (get_or starts i 0) (get_or starts 0 0) (each_at (λ k. eqb (get_or starts k 0) (get_or starts 0 0)) (length starts) i e h)

  same_all : ((i : ℕ) → i < length starts → get_or starts i 0 ≡ get_or starts 0 0) → same_starts starts ≡ true
  unfolding same_starts
  same_all h =
      each_all (λ k. eqb (get_or starts k 0) (get_or starts 0 0)) (length starts) (λ i l. eq-eqb (get_or starts i 0) (get_or starts 0 0) (h i l))

  pub same_off : (i : ℕ) → i < length starts → (get_or starts i 0 ≡ get_or starts 0 0 → ⊥) → same_starts starts ≡ false
  unfolding same_starts
  same_off i h f =
      each_fail (λ k. eqb (get_or starts k 0) (get_or starts 0 0)) (length starts) i h (ne_eqb (get_or starts i 0) (get_or starts 0 0) f)

  module _ (family axes : ℕ) where
    pub starts_many : (length starts ≡ axes → ⊥) → has_starts family axes starts ≡ false
    unfolding has_starts
    starts_many f = rw (ne_eqb (length starts) axes f) refl

    pub starts_free : length starts ≡ axes → (family ≡ 2 → ⊥) → has_starts family axes starts ≡ true
    unfolding has_starts
    starts_free e f = rw (eq-eqb (length starts) axes e, ne_eqb family 2 f) refl

    pub starts_shared : length starts ≡ axes → family ≡ 2 → same_starts starts ≡ has_starts family axes starts
    unfolding has_starts
    starts_shared e f = rw (eq-eqb (length starts) axes e, eq-eqb family 2 f) refl

    pub starts_long : has_starts family axes starts ≡ true → length starts ≡ axes
    unfolding has_starts
    starts_long e = eqb-true (length starts) axes ((and-eq-true_iff (eqb (length starts) axes) (not (eqb family 2) || same_starts starts)).0 e).0

    -- where all are equal, any family has them
    starts_same : length starts ≡ axes → same_starts starts ≡ true → has_starts family axes starts ≡ true
    starts_same e same = ⊎_elim (λ f. sym (starts_shared e f) ∙ same) (λ f. starts_free e f) (eq_or_ne family 2)

    starts_equal : has_starts family axes starts ≡ true → family ≡ 2 → (i : ℕ) → i < axes → get_or starts i 0 ≡ get_or starts 0 0
    starts_equal e f i h = let long = starts_long e in same_at (starts_shared long f ∙ e) i (omega arith)

-- ---- a run that is opened

module _ {p : Plan} {r : Run} (o : Opens p r) where
  pub opens_long : length r.starts ≡ axis_count p
  opens_long = starts_long r.starts (family_of p) (axis_count p) o.has_starts_lem

  opens_range : (i : ℕ) → i < axis_count p → get_or r.starts i 0 + r.count ≤ 2 ^ 32
  opens_range i h = range_at r o.is_in_range i (omega (arith, opens_long))

  -- each axis reads indexes below 2^32
  pub opens_low : (i t : ℕ) → i < axis_count p → t < r.count → index_at r i t < 2 ^ 32
  unfolding index_at
  opens_low i t h l = omega (arith, opens_range i h)

  module _ (v : Valid p) where
    pub opens_count : r.count ≤ 2 ^ 32
    opens_count = omega (arith, opens_range 0 (omega (arith, (axis_count_lem p v).0)))

    -- its starts, with zeros after them
    pub opens_within : Within (padded 6 r.starts) r.count
    opens_within = record {
      long = padded_length 6 r.starts (omega (arith, opens_long, (axis_count_lem p v).1));
      at = λ i. rw (padded_at 6 r.starts i) (⊎_elim (λ h. opens_range i h) (λ h. beyond i h) (lt_or_ge i (axis_count p)));
    }
      where
        beyond : (i : ℕ) → axis_count p ≤ i → get_or r.starts i 0 + r.count ≤ 2 ^ 32
        beyond i h = omega (arith, opens_count, get_or-eq_default r.starts 0 {n = i} (omega (arith, opens_long)))

-- ---- the indexes of a step

module _ (r : Run) (t : ℕ) where
  indexes_length : length (indexes_at r t) ≡ length r.starts
  unfolding indexes_at
  indexes_length = listed_length (λ i. index_at r i t) (length r.starts)

  indexes_at_lem : (i : ℕ) → i < length r.starts → get_or (indexes_at r t) i 0 ≡ index_at r i t
  unfolding indexes_at
  indexes_at_lem i h = listed_at (λ k. index_at r k t) (length r.starts) i h

  -- by six starts
  pub indexes_of_six : length r.starts ≡ 6 → padded 6 (listed (λ i. get_or r.starts i 0 + t) 6) ≡ indexes_at r t
  unfolding indexes_at index_at padded
  indexes_of_six six = rw (listed_length (λ i. get_or r.starts i 0 + t) 6, six) (append-nil _)

-- ---- of six starts

-- one index for all
pub within_all : (n k : ℕ) → n + k ≤ 2 ^ 32 → Within (replicate 6 n) k
within_all n k h = record { long = length-replicate {A = ℕ} 6 n; at = λ i. ⊎_elim (here i) (beyond i) (lt_or_ge i 6) }
  where
    here : (i : ℕ) → i < 6 → get_or (replicate 6 n) i 0 + k ≤ 2 ^ 32
    here i l = omega (arith, get_or-replicate 6 i n 0 l)

    beyond : (i : ℕ) → 6 ≤ i → get_or (replicate 6 n) i 0 + k ≤ 2 ^ 32
    beyond i l = omega (arith, get_or-eq_default (replicate 6 n) 0 {n = i} (omega (arith, length-replicate {A = ℕ} 6 n)))

module _ {starts : List ℕ} {k : ℕ} (w : Within starts k) where
  pub within_less : {j : ℕ} → j ≤ k → Within starts j
  within_less h = record { long = w.long; at = λ i. omega (arith, w.at i) }

  module _ (count t : ℕ) where
    pub six_at : (i : ℕ) → i < 6 → get_or (indexes_at (run_of starts count) t) i 0 ≡ index_at (run_of starts count) i t
    six_at i h = indexes_at_lem (run_of starts count) t i (omega (arith, w.long))

    -- t places on, as many fewer are left
    pub within_on : {j : ℕ} → t + j ≤ k → Within (indexes_at (run_of starts count) t) j
    unfolding index_at
    within_on {j} h = record { long = indexes_length (run_of starts count) t ∙ w.long; at = λ i. ⊎_elim (here i) (beyond i) (lt_or_ge i 6) }
      where
        here : (i : ℕ) → i < 6 → get_or (indexes_at (run_of starts count) t) i 0 + j ≤ 2 ^ 32
        here i l = omega (arith, six_at i l, w.at i)

        beyond : (i : ℕ) → 6 ≤ i → get_or (indexes_at (run_of starts count) t) i 0 + j ≤ 2 ^ 32
        beyond i l =
            omega (arith, w.at i, get_or-eq_default (indexes_at (run_of starts count) t) 0 {n = i} (omega (arith, indexes_length (run_of starts count) t, w.long)))

-- zeros behind the starts change no index
pub from_padded : (r : Run) {starts : List ℕ} → starts ≡ padded 6 r.starts → (i t : ℕ) → get_or starts i 0 + t ≡ index_at r i t
unfolding index_at
from_padded r e i t = ap (λ (l : List ℕ). get_or l i 0 + t) e ∙ ap (λ (n : ℕ). n + t) (padded_at 6 r.starts i)

-- ---- a part

module _ (r : Run) (t n : ℕ) where
  -- each axis reads on from the run's step t
  pub part_index : (i : ℕ) → i < length r.starts → (k : ℕ) → index_at (part_of r t n) i k ≡ index_at r i (t + k)
  unfolding part_of index_at
  part_index i h k = ap (λ (m : ℕ). m + k) (indexes_at_lem r t i h) ∙ unfold index_at in add_assoc (get_or r.starts i 0) t k

  -- of a run that is opened it is opened
  pub part_opens : {p : Plan} → Opens p r → t + n ≤ r.count → Opens p (part_of r t n)
  unfolding part_of index_at
  part_opens {p} o h = record {
    is_in_range = range_all (run_of (indexes_at r t) n) (λ i l. is_start (get_or (indexes_at r t) i 0) n (reach i (omega (arith, indexes_length r t))));
    has_starts_lem = ⊎_elim (λ f. starts_same (indexes_at r t) (family_of p) (axis_count p) long (same f)) (starts_free (indexes_at r t) (family_of p) (axis_count p) long) (eq_or_ne (family_of p) 2);
  }
    where
      long : length (indexes_at r t) ≡ axis_count p
      long = indexes_length r t ∙ opens_long o

      reach : (i : ℕ) → i < length r.starts → get_or (indexes_at r t) i 0 + n ≤ 2 ^ 32
      reach i l = omega (arith, indexes_at_lem r t i l, range_at r o.is_in_range i l)

      at : (i : ℕ) → i < axis_count p → get_or (indexes_at r t) i 0 ≡ get_or r.starts i 0 + t
      at i l = indexes_at_lem r t i (omega (arith, opens_long o))

      same : family_of p ≡ 2 → same_starts (indexes_at r t) ≡ true
      same f =
          same_all (indexes_at r t)
          (λ i l.
          let k : i < axis_count p = omega (arith, long) in
          omega (arith, at i k, at 0 (omega arith), starts_equal r.starts (family_of p) (axis_count p) o.has_starts_lem f i k))

-- ---- the points

module _ (p : Plan) (r : Run) where
  pub run_point_length : (t : ℕ) → length (run_point p r t) ≡ axis_count p
  unfolding run_point
  run_point_length t = listed_length (run_numerator p r t) (axis_count p)

-- ---- one start for all axes

module _ (p : Plan) (start count : ℕ) where
  one_long : length (one_start p start count).starts ≡ axis_count p
  unfolding one_start
  one_long = length-replicate {A = ℕ} (axis_count p) start

  one_at : (i : ℕ) → i < axis_count p → get_or (one_start p start count).starts i 0 ≡ start
  unfolding one_start
  one_at i h = get_or-replicate (axis_count p) i start 0 h

  -- starts at 0, with zeros after them
  pub one_zeros : axis_count p ≤ 6 → start ≡ 0 → replicate 6 0 ≡ padded 6 (one_start p start count).starts
  one_zeros few e =
      let starts = (one_start p start count).starts in
      ext_get_or 0 (replicate 6 0) (padded 6 starts) (sym (padded_length 6 starts (omega (arith, one_long))))
      (λ i l. zeros_at 6 i ∙ sym (padded_at 6 starts i ∙ none i))
    where
      none : (i : ℕ) → get_or (one_start p start count).starts i 0 ≡ 0
      none i =
          ⊎_elim (λ h. one_at i h ∙ e) (λ h. get_or-eq_default (one_start p start count).starts 0 {n = i} (omega (arith, one_long)))
          (lt_or_ge i (axis_count p))

  -- it has one for each axis, and shared
  pub one_has : has_starts (family_of p) (axis_count p) (one_start p start count).starts ≡ true
  one_has =
      starts_same (one_start p start count).starts (family_of p) (axis_count p) one_long
      (same_all (one_start p start count).starts (λ i l. one_at i (omega (arith, one_long)) ∙ sym (one_at 0 (omega (arith, one_long)))))

  -- its range is that of the start
  pub one_range : 1 ≤ axis_count p → in_range (one_start p start count) ≡ start_in_range start count
  one_range pos = ⊎_elim (λ h. off h) (λ h. on h) (lt_or_ge (2 ^ 32) (start + count))
    where
      tested : (i : ℕ) → i < axis_count p → start_in_range (get_or (one_start p start count).starts i 0) (one_start p start count).count ≡ start_in_range start count
      tested i l = unfold one_start in ap (λ (n : ℕ). start_in_range n count) (one_at i l)

      off : 2 ^ 32 < start + count → in_range (one_start p start count) ≡ start_in_range start count
      off h =
          let no = not_start start count h in
          range_off (one_start p start count) 0 (omega (arith, one_long)) (tested 0 pos ∙ no) ∙ sym no

      on : start + count ≤ 2 ^ 32 → in_range (one_start p start count) ≡ start_in_range start count
      on h =
          let yes = is_start start count h in
          range_all (one_start p start count) (λ i l. tested i (omega (arith, one_long)) ∙ yes) ∙ sym yes

  pub one_opens : 1 ≤ axis_count p → start + count ≤ 2 ^ 32 → Opens p (one_start p start count)
  one_opens pos h = record { is_in_range = one_range pos ∙ is_start start count h; has_starts_lem = one_has }

  -- every axis reads the start plus the step
  pub one_index : (i t : ℕ) → i < axis_count p → index_at (one_start p start count) i t ≡ start + t
  unfolding index_at
  one_index i t h = ap (λ (n : ℕ). n + t) (one_at i h)

  -- by one index for all
  pub from_all : axis_count p ≤ 6 → (i t : ℕ) → i < axis_count p → get_or (replicate 6 start) i 0 + t ≡ index_at (one_start p start count) i t
  from_all few i t h = ap (λ (n : ℕ). n + t) (get_or-replicate 6 i start 0 (omega arith)) ∙ sym (one_index i t h)

  pub one_point : (t : ℕ) → run_point p (one_start p start count) t ≡ point_of p (start + t)
  unfolding run_point run_numerator point_of
  one_point t =
      listed_same (run_numerator p (one_start p start count) t) (numerator_of p (start + t)) (axis_count p)
      (λ i h. ap (λ (n : ℕ). numerator_of p n i) (one_index i t h))
