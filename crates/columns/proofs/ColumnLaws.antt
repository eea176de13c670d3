-- A buffer of rows filled column by column: one store more, parts joined, columns joined, and all columns as a list. Assumes nothing.
use mathlib.Core.Path.{◌≡◌, refl, sym, ap, ◌∙◌, subst}
use mathlib.Core.Logic.{⊎_elim}
use mathlib.Core.List.{List, [], ◌∷◌, ◌++◌}
use Prim.Native.Nat.{ℕ, zero, suc, ◌+◌, ◌-◌, ◌*◌, ◌/◌, ◌%◌, ◌<◌, ◌≤◌}
use native.Mathlib.Nat.{add-zero, zero-mul, suc-mul, add-mul, mul-le-mul_right, mod-lt, div-add-mod', div-lt_iff_lt-mul}
use native.Mathlib.Numerals.{add-one}
use native.Mathlib.Omega.{arith}
use lib.Arith.{digits_mod}
use lib.ListN.{length, get_or, set, drop, length-set, length-append, length-drop, get_or-append}
use lib.Seq.{get_or-set_same, get_or-set_other, get_or-append-add, get_or-drop, ext_get_or}
use Rattle.numbers.specs.Listed.{listed}
use Rattle.numbers.proofs.Cases.{lt_or_ge}
use Rattle.numbers.proofs.ListedLaws.{listed_length, listed_at}
use Rattle.columns.specs.Rows.{Column, Columns, in_front, rows}

-- ---- places

-- two places of one column
pub apart_rows : (i k s j : ℕ) → i < k → 0 < s → i * s + j < k * s + j
apart_rows i k s j l p = omega (arith, mul-le-mul_right {m = i + 1} {n = k} s (omega arith), add-mul i 1 s)

-- two columns
pub apart_columns : (i k s a j : ℕ) → a < s → j < s → (a ≡ j → ⊥) → i * s + a ≡ k * s + j → ⊥
apart_columns i k s a j l h f e = f (sym (digits_mod i l) ∙ ap (λ (x : ℕ). x % s) e ∙ digits_mod k h)

-- a place of row i is below the end of the rows
pub row_end : (i hi s j : ℕ) → i < hi → j < s → i * s + j < hi * s
row_end i hi s j l h = omega (arith, mul-le-mul_right {m = i + 1} {n = hi} s (omega arith), add-mul i 1 s)

-- ---- one column

pub column_none : (g : ℕ → ℕ) (lo s j : ℕ) (l : List ℕ) → Column g lo lo s j l l
column_none g lo s j l = record { same_length = refl; wrote = λ i a h. absurd (omega arith); kept = λ p f. refl }

module _ {g : ℕ → ℕ} {lo i s j : ℕ} {old new : List ℕ} (c : Column g lo i s j old new) where
  pub column_more : (v : ℕ) → lo ≤ i → 0 < s → i * s + j < length old → v ≡ g i → Column g lo (i + 1) s j old (set new (i * s + j) v)
  column_more v h pos fits e = record {
    same_length = length-set new (i * s + j) v ∙ c.same_length;
    wrote = λ k a l. ⊎_elim (λ q. before k a q) (λ q. here k (omega arith)) (lt_or_ge k i);
    kept = λ p f. get_or-set_other new (i * s + j) p v 0 (λ q. f i h (omega arith) q) ∙ c.kept p (λ k a l q. f k a (omega arith) q);
  }
    where
      before : (k : ℕ) → lo ≤ k → k < i → get_or (set new (i * s + j) v) (k * s + j) 0 ≡ g k
      before k a q =
          get_or-set_other new (i * s + j) (k * s + j) v 0 (λ w. absurd (omega (arith, apart_rows k i s j q pos))) ∙ c.wrote k a q

      here : (k : ℕ) → k ≡ i → get_or (set new (i * s + j) v) (k * s + j) 0 ≡ g k
      here k q = rw q (get_or-set_same new (i * s + j) v 0 (omega (arith, c.same_length)) ∙ e)

  pub column_to : {hi : ℕ} → i ≡ hi → Column g lo hi s j old new
  column_to e = subst (λ (k : ℕ). Column g lo k s j old new) e c

  pub column_as : (h : ℕ → ℕ) → ((k : ℕ) → lo ≤ k → k < i → g k ≡ h k) → Column h lo i s j old new
  column_as h f = record { same_length = c.same_length; wrote = λ k a l. c.wrote k a l ∙ f k a l; kept = c.kept }

  pub column_join : {hi : ℕ} {last : List ℕ} → Column g i hi s j new last → lo ≤ i → i ≤ hi → 0 < s → Column g lo hi s j old last
  column_join {hi} {last} d h m pos = record {
    same_length = d.same_length ∙ c.same_length;
    wrote = λ k a l. ⊎_elim (λ q. d.kept (k * s + j) (λ k' a' l' e. omega (arith, apart_rows k k' s j (omega arith) pos)) ∙ c.wrote k a q) (λ q. d.wrote k q l) (lt_or_ge k i);
    kept = λ p f. d.kept p (λ k a l e. f k (omega arith) l e) ∙ c.kept p (λ k a l e. f k a (omega arith) e);
  }

-- ---- several columns

module _ (g : ℕ → ℕ → ℕ) where
  -- no rows
  pub columns_empty : (lo s c j : ℕ) (l : List ℕ) → Columns g lo lo s c j l l
  columns_empty lo s c j l = record { same_length = refl; wrote = λ i a h k n. absurd (omega arith); kept = λ p f. refl }

module _ {g : ℕ → ℕ → ℕ} {lo hi s c j : ℕ} {old new : List ℕ} (w : Columns g lo hi s c j old new) where
  pub columns_to : {k : ℕ} → j ≡ k → Columns g lo hi s c k old new
  columns_to e = subst (λ (i : ℕ). Columns g lo hi s c i old new) e w

  pub columns_rows : {k : ℕ} → hi ≡ k → Columns g lo k s c j old new
  columns_rows e = subst (λ (i : ℕ). Columns g lo i s c j old new) e w

  pub columns_as : (h : ℕ → ℕ → ℕ) → ((a : ℕ) → a < j → (i : ℕ) → g a i ≡ h a i) → Columns h lo hi s c j old new
  columns_as h e = record { same_length = w.same_length; wrote = λ i a l k n. w.wrote i a l k n ∙ e a n i; kept = w.kept }

  -- no rows, and the buffer is as it was
  pub columns_unchanged : hi ≤ lo → new ≡ old
  columns_unchanged h = ext_get_or 0 new old w.same_length (λ p l. w.kept p (λ i a m k n e. omega arith))

  -- one column more, behind these
  pub columns_more : {last : List ℕ} → Column (g j) lo hi s (c + j) new last → c + j < s → Columns g lo hi s c (j + 1) old last
  columns_more {last} d l = record {
    same_length = d.same_length ∙ w.same_length;
    wrote = λ i a h k n. ⊎_elim (λ q. d.kept (i * s + (c + a)) (λ i' h' k' e. apart_columns i i' s (c + a) (c + j) (omega arith) l (λ x. omega arith) e) ∙ w.wrote i a h k q) (λ q. here i a h k (omega arith)) (lt_or_ge a j);
    kept = λ p f. d.kept p (λ i h k e. f i j h k (omega arith) e) ∙ w.kept p (λ i a h k n e. f i a h k (omega arith) e);
  }
    where
      here : (i a : ℕ) → lo ≤ i → i < hi → a ≡ j → get_or last (i * s + (c + a)) 0 ≡ g a i
      here i a h k q = rw q (d.wrote i h k)

  -- more rows
  pub columns_join : {end : ℕ} {last : List ℕ} → Columns g hi end s c j new last → lo ≤ hi → hi ≤ end → c + j ≤ s → Columns g lo end s c j old last
  columns_join {end} {last} d h m l = record {
    same_length = d.same_length ∙ w.same_length;
    wrote = λ i a o k n. ⊎_elim (λ q. d.kept (i * s + (c + a)) (λ i' a' h' k' n' e. omega (arith, row_end i i' s (c + a) (omega arith) (omega arith))) ∙ w.wrote i a o q n) (λ q. d.wrote i a q k n) (lt_or_ge i hi);
    kept = λ p f. d.kept p (λ i a o k n e. f i a (omega arith) k n e) ∙ w.kept p (λ i a o k n e. f i a o (omega arith) n e);
  }

-- one column more, in front of these
pub columns_front : {g : ℕ → ℕ → ℕ} {h : ℕ → ℕ} {lo hi s c j : ℕ} {old mid new : List ℕ} → Columns g lo hi s (c + 1) j old mid
    → Column h lo hi s c mid new → c + j < s → Columns (in_front h g) lo hi s c (j + 1) old new
unfolding in_front
columns_front {g} {h} {lo} {hi} {s} {c} {j} {old} {mid} {new} w d l = record {
  same_length = d.same_length ∙ w.same_length;
  wrote = wrote;
  kept = λ p f. d.kept p (λ i o k e. f i 0 o k (omega arith) (omega arith)) ∙ w.kept p (λ i a o k n e. f i (suc a) o k (omega arith) (omega arith));
}
  where
    wrote : (i a : ℕ) → lo ≤ i → i < hi → a < j + 1 → get_or new (i * s + (c + a)) 0 ≡ in_front h g a i
    wrote i zero o k n = rw add-zero (d.wrote i o k)
    wrote i (suc a) o k n =
        let e : c + suc a ≡ c + 1 + a = omega arith in
        d.kept (i * s + (c + suc a)) (λ i' o' k' q. apart_columns i i' s (c + suc a) c (omega arith) (omega arith) (λ x. omega arith) q)
        ∙ rw e (w.wrote i a o k (omega arith))

-- ---- all columns as a list

module _ (g : ℕ → ℕ → ℕ) (s : ℕ) where
  rows_length : (k : ℕ) → length (rows g s k) ≡ k * s
  unfolding rows
  rows_length zero = sym (zero-mul s)
  rows_length (suc k) = rw (length-append, rows_length k, listed_length, suc-mul)

  rows_at : (k i a : ℕ) → i < k → a < s → get_or (rows g s k) (i * s + a) 0 ≡ g a i
  unfolding rows
  rows_at zero i a l h = absurd (omega arith)
  rows_at (suc k) i a l h = ⊎_elim (λ q. before q (rows_at k i a q h)) (λ q. here (omega arith)) (lt_or_ge i k)
    where
      before : i < k → get_or (rows g s k) (i * s + a) 0 ≡ g a i → get_or (rows g s k ++ listed (λ x. g x k) s) (i * s + a) 0 ≡ g a i
      before q e = get_or-append (rows g s k) (listed (λ x. g x k) s) 0 (i * s + a) (omega (arith, rows_length k, row_end i k s a q h)) ∙ e

      here : i ≡ k → get_or (rows g s k ++ listed (λ x. g x k) s) (i * s + a) 0 ≡ g a i
      here e =
          ap (λ (x : ℕ). get_or (rows g s k ++ listed (λ x. g x k) s) (x + a) 0) (ap (λ (x : ℕ). x * s) e ∙ sym (rows_length k))
          ∙ get_or-append-add (rows g s k) (listed (λ x. g x k) s) a 0
          ∙ listed_at (λ x. g x k) s a h
          ∙ ap (g a) (sym e)

module _ (g : ℕ → ℕ → ℕ) (s k : ℕ) (old new : List ℕ) (c : Columns g 0 k s 0 s old new) (pos : 0 < s) (fits : k * s ≤ length old) where
  front : (p : ℕ) → p < k * s → get_or new p 0 ≡ get_or (rows g s k ++ drop (k * s) old) p 0
  front p l =
      let low : p / s < k = (div-lt_iff_lt-mul {k = s} pos).1 l in
      ap (λ (x : ℕ). get_or new x 0) {x = p} {y = p / s * s + (0 + p % s)} (omega (arith, div-add-mod' p s))
      ∙ c.wrote (p / s) (p % s) (omega arith) low (mod-lt p pos)
      ∙ sym (rows_at g s k (p / s) (p % s) low (mod-lt p pos))
      ∙ ap (λ (x : ℕ). get_or (rows g s k) x 0) (div-add-mod' p s)
      ∙ sym (get_or-append (rows g s k) (drop (k * s) old) 0 p (omega (arith, rows_length g s k)))

  back : (p : ℕ) → k * s ≤ p → get_or new p 0 ≡ get_or (rows g s k ++ drop (k * s) old) p 0
  back p l =
      c.kept p (λ i a h m n e. omega (arith, row_end i k s a m n))
      ∙ ap (λ (x : ℕ). get_or old x 0) {x = p} {y = k * s + (p - k * s)} (omega arith)
      ∙ sym (get_or-drop (k * s) old (p - k * s) 0)
      ∙ sym (get_or-append-add (rows g s k) (drop (k * s) old) (p - k * s) 0)
      ∙ ap (λ (x : ℕ). get_or (rows g s k ++ drop (k * s) old) x 0) {x = length (rows g s k) + (p - k * s)} {y = p} (omega (arith, rows_length g s k))

  pub columns_list : new ≡ rows g s k ++ drop (k * s) old
  columns_list =
      ext_get_or 0 new (rows g s k ++ drop (k * s) old)
      (c.same_length ∙ rw (length-append, rows_length, length-drop) (omega arith))
      (λ p l. ⊎_elim (λ q. front p q) (λ q. back p q) (lt_or_ge p (k * s)))

-- ---- a column in front of all others, as a list

module _ {g : ℕ → ℕ → ℕ} {h : ℕ → ℕ} {s j k : ℕ} {old mid new : List ℕ} where
  pub front_list : Columns g 0 k s 1 j old mid → Column h 0 k s 0 mid new → s ≡ j + 1 → k * s ≤ length old
      → new ≡ rows (in_front h g) s k ++ drop (k * s) old
  front_list w d e fits =
      columns_list (in_front h g) s k old new (columns_to (columns_front {c = 0} w d (omega arith)) (sym e)) (omega arith) fits

-- row i of such a list
module _ (g : ℕ → ℕ → ℕ) (h : ℕ → ℕ) (i : ℕ) where
  front_one : (j : ℕ) → listed (λ a. in_front h g a i) (suc j) ≡ h i ∷ listed (λ a. g a i) j
  unfolding listed in_front
  front_one zero = refl
  front_one (suc j) = ap (λ (l : List ℕ). l ++ g j i ∷ []) (front_one j)

  pub front_row : (s j : ℕ) → s ≡ j + 1 → listed (λ a. in_front h g a i) s ≡ h i ∷ listed (λ a. g a i) j
  front_row s j e = ap (listed (λ a. in_front h g a i)) (e ∙ add-one j) ∙ front_one j
