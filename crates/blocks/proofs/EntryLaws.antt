-- The tables of all axes: one axis more leaves those before it, and all of them give the points. Assumes nothing.
use mathlib.Core.Path.{◌≡◌, sym, ap, ◌∙◌}
use mathlib.Core.List.{List, ◌++◌}
use mathlib.Core.Logic.{⊎_elim}
use Prim.Native.Nat.{ℕ, ◌+◌, ◌*◌, ◌<◌}
use native.Mathlib.Omega.{arith}
use lib.ListN.{length, get_or, set, take, drop, length-drop, take-append-drop}
use lib.Seq.{length-take-le, take_at, drop_at, take-append-le, drop-append-le, get_or-set_same, get_or-set_other}
use Rattle.numbers.proofs.Cases.{lt_or_ge}
use Rattle.points.specs.Arrays.{numerator_from, numerators_from, Arrays}
use Rattle.points.proofs.ArrayLaws.{numerator_by_base}
use Rattle.halton_blocks.specs.Filling.{halton_from, Made}
use Rattle.halton_blocks.proofs.MadeLaws.{made_points}
use Rattle.blocks.specs.Tables.{Bases, entries_at, tabled_at, AllReady, AllMade}

pub bases_of : {family axes : ℕ} {bases vs : List ℕ} → Arrays family axes bases vs → (family ≡ 2 → ⊥) → Bases axes bases
bases_of a f = record { few = a.few; reach = omega (arith, a.few, a.bases_long); low = λ i h. a.base_low i h f; high = λ i h. a.base_high i h f }

-- l up to axis i's entries, then ys, then the rest
abbrev pub replaced : List ℕ → ℕ → List ℕ → List ℕ → List ℕ
replaced l i ys rest = take (256 * i) l ++ (ys ++ rest)

module _ (l : List ℕ) (i : ℕ) (ys rest : List ℕ) (long : length l ≡ 1536) (few : i < 6) (size : length ys ≡ 256) where
  front : length (take (256 * i) l) ≡ 256 * i
  front = length-take-le (256 * i) l (omega arith)

  entries_here : entries_at (replaced l i ys rest) i ≡ ys
  entries_here = ap (take 256) (drop_at (take (256 * i) l) (ys ++ rest) (256 * i) front) ∙ take_at ys rest 256 size

  entries_before : (j : ℕ) → j < i → entries_at (replaced l i ys rest) j ≡ entries_at l j
  entries_before j h =
      inside (ys ++ rest)
      ∙ sym (ap (λ (x : List ℕ). entries_at x j) (sym (take-append-drop (256 * i) l)) ∙ inside (drop (256 * i) l))
    where
      inside : (b : List ℕ) → entries_at (take (256 * i) l ++ b) j ≡ take 256 (drop (256 * j) (take (256 * i) l))
      inside b =
          ap (take 256) (drop-append-le (256 * j) (take (256 * i) l) b (omega (arith, front)))
          ∙ take-append-le 256 (drop (256 * j) (take (256 * i) l)) b (omega (arith, front, length-drop (256 * j) (take (256 * i) l)))

pub all_ready : {family axes : ℕ} {bases sizes images tables : List ℕ} → AllMade family axes bases sizes images tables
    → AllReady axes bases sizes images tables
all_ready all = record { at = λ i h. (all.at i h).ready }

-- the points by the tables are the plan's
pub all_points : {family axes : ℕ} {bases sizes images tables : List ℕ} → AllMade family axes bases sizes images tables → (family ≡ 2 → ⊥)
    → (vs : List ℕ) (n : ℕ → ℕ) (a : ℕ) → a < axes → (i : ℕ) → tabled_at bases images n a i ≡ numerators_from family bases vs n a i
unfolding tabled_at numerators_from numerator_from halton_from
all_points {family} {axes} {bases} all f vs n a h i = made_points (all.at a h) (n a) i ∙ numerator_by_base family bases vs (n a + i) a f

-- one axis more, written over its entries
pub all_more : (family i : ℕ) (bases sizes images tables : List ℕ) (size : ℕ) (ys ys' zs zs' : List ℕ) → i < 6 → length sizes ≡ 6
    → length images ≡ 1536 → length tables ≡ 1536 → length ys ≡ 256 → length zs ≡ 256
    → AllMade family i bases sizes images tables → Made family (get_or bases i 0) size ys zs
    → AllMade family (i + 1) bases (set sizes i size) (replaced images i ys ys') (replaced tables i zs zs')
all_more family i bases sizes images tables size ys ys' zs zs' few many li lt ly lz all made = record {
  at = λ j h. ⊎_elim (λ q. before j q (all.at j q)) (λ q. here j (omega arith)) (lt_or_ge j i);
}
  where
    Now : ℕ → Type 0
    Now j = Made family (get_or bases j 0) (get_or (set sizes i size) j 0) (entries_at (replaced images i ys ys') j) (entries_at (replaced tables i zs zs') j)

    before : (j : ℕ) → j < i → Made family (get_or bases j 0) (get_or sizes j 0) (entries_at images j) (entries_at tables j) → Now j
    before j q m =
        rw (get_or-set_other sizes i j size 0 (omega arith), entries_before images i ys ys' li few ly j q, entries_before tables i zs zs' lt few lz j q) m

    here : (j : ℕ) → j ≡ i → Now j
    here j q =
        rw (q, get_or-set_same sizes i size 0 (omega arith), entries_here images i ys ys' li few ly, entries_here tables i zs zs' lt few lz) made
