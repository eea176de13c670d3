-- The rows and the table of images, written axis by axis. Assumes nothing.
use mathlib.Core.Path.{◌≡◌, sym, ap, subst, ◌∙◌}
use mathlib.Core.Logic.{⊎_elim}
use mathlib.Core.List.{List, ◌++◌}
use Prim.Native.Nat.{ℕ, ◌+◌, ◌*◌, ◌<◌, ◌≤◌}
use native.Mathlib.Omega.{arith}
use lib.ListN.{length, take, get_or, set, length-set, get_or-append}
use lib.Seq.{get_or-set_same, get_or-set_other, length-take-le, get_or-append-add, get_or-take}
use Rattle.numbers.specs.Listed.{Begins}
use Rattle.numbers.proofs.Cases.{lt_or_ge}
use Rattle.permutation.specs.Families.{image_of}
use Rattle.window.specs.Counting.{cut_at}
use Rattle.strips.specs.Classes.{image_from}
use Rattle.strip_count.specs.Rows.{RowPut, RowAt, Rowed, Filled}

-- ---- a row

-- an entry before a store
earlier : (l : List ℕ) (p j x : ℕ) → j < p → get_or (set l p x) j 0 ≡ get_or l j 0
earlier l p j x h = get_or-set_other l p j x 0 (λ e. omega arith)

module _ (rows : List ℕ) (i b n u q : ℕ) (room : 5 * i + 4 < length rows) where
  abbrev one : List ℕ
  one = set rows (5 * i) b

  abbrev two : List ℕ
  two = set one (5 * i + 1) n

  abbrev three : List ℕ
  three = set two (5 * i + 2) 0

  abbrev four : List ℕ
  four = set three (5 * i + 3) u

  lengths : (length one ≡ length rows) × (length two ≡ length one) × (length three ≡ length two) × (length four ≡ length three)
  lengths = (length-set rows (5 * i) b, length-set one (5 * i + 1) n, length-set two (5 * i + 2) 0, length-set three (5 * i + 3) u)

  -- its five stores
  pub row_put : RowPut i b n u q rows (set (set (set (set (set rows (5 * i) b) (5 * i + 1) n) (5 * i + 2) 0) (5 * i + 3) u) (5 * i + 4) q)
  row_put =
      record {
        row =
            record {
              base =
                  from_four (5 * i) (omega arith) ∙ from_three (5 * i) (omega arith) ∙ from_two (5 * i) (omega arith) ∙ from_one (5 * i) (omega arith)
                  ∙ get_or-set_same rows (5 * i) b 0 (omega arith);
              start =
                  from_four (5 * i + 1) (omega arith) ∙ from_three (5 * i + 1) (omega arith) ∙ from_two (5 * i + 1) (omega arith)
                  ∙ get_or-set_same one (5 * i + 1) n 0 (omega (arith, lengths));
              lower =
                  from_four (5 * i + 2) (omega arith) ∙ from_three (5 * i + 2) (omega arith)
                  ∙ get_or-set_same two (5 * i + 2) 0 0 (omega (arith, lengths));
              upper = from_four (5 * i + 3) (omega arith) ∙ get_or-set_same three (5 * i + 3) u 0 (omega (arith, lengths));
              whole = get_or-set_same four (5 * i + 4) q 0 (omega (arith, lengths));
            };
        before = λ j h.
            from_four j (omega arith) ∙ from_three j (omega arith) ∙ from_two j (omega arith) ∙ from_one j (omega arith) ∙ earlier rows (5 * i) j b h;
      }
    where
      from_four : (j : ℕ) → j < 5 * i + 4 → get_or (set four (5 * i + 4) q) j 0 ≡ get_or four j 0
      from_four j h = earlier four (5 * i + 4) j q h

      from_three : (j : ℕ) → j < 5 * i + 3 → get_or four j 0 ≡ get_or three j 0
      from_three j h = earlier three (5 * i + 3) j u h

      from_two : (j : ℕ) → j < 5 * i + 2 → get_or three j 0 ≡ get_or two j 0
      from_two j h = earlier two (5 * i + 2) j 0 h

      from_one : (j : ℕ) → j < 5 * i + 1 → get_or two j 0 ≡ get_or one j 0
      from_one j h = earlier one (5 * i + 1) j n h

-- ---- the rows

module _ (bases starts w order : List ℕ) where
  pub rowed_none : (rows : List ℕ) → Rowed bases starts w order rows 0
  rowed_none rows = record { at = λ i h. absurd (omega arith) }

  -- one row more
  pub rowed_more : {rows new : List ℕ} (i : ℕ) → Rowed bases starts w order rows i
      → let a = get_or order i 0 in RowPut i (get_or bases a 0) (get_or starts a 0) (cut_at w a).u (cut_at w a).q rows new
      → Rowed bases starts w order new (i + 1)
  rowed_more {rows} {new} i old put = record {
    at = λ j h. ⊎_elim (kept j) (λ k. subst Own {x = i} {y = j} (omega arith) put.row) (lt_or_ge j i);
  }
    where
      Own : ℕ → Type 0
      Own j = let a = get_or order j 0 in RowAt new j (get_or bases a 0) (get_or starts a 0) (cut_at w a).u (cut_at w a).q

      kept : (j : ℕ) → j < i → Own j
      kept j k =
          let r = old.at j k in
          record {
            base = put.before (5 * j) (omega arith) ∙ r.base;
            start = put.before (5 * j + 1) (omega arith) ∙ r.start;
            lower = put.before (5 * j + 2) (omega arith) ∙ r.lower;
            upper = put.before (5 * j + 3) (omega arith) ∙ r.upper;
            whole = put.before (5 * j + 4) (omega arith) ∙ r.whole;
          }

-- ---- the table

module _ (family : ℕ) (bases order : List ℕ) where
  pub filled_none : (l : List ℕ) → Filled family bases order l 0
  filled_none l = record { at = λ i d h k. absurd (omega arith) }

  -- one axis more, written over its entries
  pub filled_more : {i : ℕ} {l : List ℕ} (ys rest : List ℕ) → Filled family bases order l i → 256 * i ≤ length l → length ys ≡ 256
      → ((j : ℕ) → j < i + 1 → get_or bases (get_or order j 0) 0 ≤ 256)
      → let b = get_or bases (get_or order i 0) 0 in Begins (image_of family b) b ys → Filled family bases order (take (256 * i) l ++ (ys ++ rest)) (i + 1)
  unfolding image_from
  filled_more {i} {l} ys rest old room size high made = record {
    at = λ j d h k. ⊎_elim (λ g. kept j d g k ∙ old.at j d g k) (λ g. here j d (omega arith) k) (lt_or_ge j i);
  }
    where
      front : length (take (256 * i) l) ≡ 256 * i
      front = length-take-le (256 * i) l room

      new : List ℕ
      new = take (256 * i) l ++ (ys ++ rest)

      kept : (j d : ℕ) → j < i → d < get_or bases (get_or order j 0) 0 → get_or new (256 * j + d) 0 ≡ get_or l (256 * j + d) 0
      kept j d g k =
          let place : 256 * j + d < 256 * i = omega (arith, high j (omega arith)) in
          get_or-append (take (256 * i) l) (ys ++ rest) 0 (256 * j + d) (omega (arith, front)) ∙ get_or-take (256 * i) l (256 * j + d) 0 place

      own : (d : ℕ) → d < get_or bases (get_or order i 0) 0 → get_or new (256 * i + d) 0 ≡ image_of family (get_or bases (get_or order i 0) 0) d
      own d k =
          ap (λ (n : ℕ). get_or new (n + d) 0) (sym front)
          ∙ get_or-append-add (take (256 * i) l) (ys ++ rest) d 0
          ∙ get_or-append ys rest 0 d (omega (arith, high i (omega arith)))
          ∙ made.at d k

      here : (j d : ℕ) → j ≡ i → d < get_or bases (get_or order j 0) 0 → get_or new (256 * j + d) 0 ≡ image_of family (get_or bases (get_or order j 0) 0) d
      here j d g k = rw g (own d (rw g at k))
