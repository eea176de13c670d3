-- Reading the bases of Halton axes: the test of a base against the earlier ones, and the loop over the axes. Assumes nothing.
use mathlib.Core.Path.{◌≡◌, refl, sym, ap, ap₂, ◌∙◌}
use mathlib.Core.Bool.{Bool, true, false, not, ◌||◌}
use mathlib.Core.List.{List, [], ◌∷◌, ◌++◌}
use Prim.Native.Nat.{ℕ, suc, ◌+◌, ◌-◌, ◌*◌, ◌<◌, ◌≤◌}
use native.Mathlib.Numerals.{add-one}
use native.Mathlib.Omega.{arith}
use lib.Dec.{ltb, eqb}
use lib.ListN.{length, take, drop, get_or, replicate, set, length-set, drop_of_length-le}
use lib.Seq.{drop-cons, drop-drop, take-suc-set}
use borrow.Author.Tests.{eq-eqb, ne_eqb}
use Rattle.numbers.specs.Gcd.{gcd}
use Rattle.bits.specs.Stream.{of_bits, bits_of, field_at}
use Rattle.plan.specs.Reading.{Step, refuse, refuse_if, field, shares_factor, read_bases}
use Rattle.halton_reader.specs.Bases.{BasesAnswer}
use Rattle.plan.proofs.BlankLaws.{blank_set}
use Rattle.plan.proofs.PartLaws.{long_field, field_value}

-- ---- a base against the earlier ones

-- those from place j on decide for all of them
pub record SharesLoop (b : ℕ) (bases : List ℕ) (j : ℕ) : Type 0 where
  pub same : shares_factor b bases ≡ shares_factor b (drop j bases)

module _ {b : ℕ} {bases : List ℕ} {j : ℕ} (inv : SharesLoop b bases j) where
  pub shares_end : length bases ≤ j → false ≡ shares_factor b bases
  unfolding shares_factor
  shares_end h = sym (inv.same ∙ rw (drop_of_length-le bases {i = j} h) refl)

  module _ (h : j < length bases) {g : ℕ} (e : g ≡ gcd b (get_or bases j 0)) where
    one_base : shares_factor b bases ≡ not (eqb g 1) || shares_factor b (drop (j + 1) bases)
    unfolding shares_factor
    one_base = inv.same ∙ rw (add-one, drop-cons bases j 0 h, e) refl

    pub shares_stop : (g ≡ 1 → ⊥) → true ≡ shares_factor b bases
    shares_stop f = sym (one_base ∙ rw (ne_eqb g 1 f) refl)

    pub shares_next : g ≡ 1 → {i : ℕ} → i ≡ j + 1 → SharesLoop b bases i
    shares_next f ei = record { same = one_base ∙ rw (eq-eqb g 1 f, ei) refl }

-- ---- one base of the reading, by the tests

short_base : (k : ℕ) (earlier l : List ℕ) → ltb (length l) 8 ≡ true → read_bases (suc k) earlier l ≡ refuse 1
unfolding read_bases field refuse_if
short_base k earlier l e = rw e refl

module _ (k : ℕ) (earlier l : List ℕ) (v : ℕ) (e : ltb (length l) 8 ≡ false) (ev : of_bits (take 8 l) ≡ v) where
  bad_base : v ≡ 0 → read_bases (suc k) earlier l ≡ refuse 4
  unfolding read_bases field refuse_if
  bad_base f = rw (e, ev, eq-eqb v 0 f) refl

  common_factor : (v ≡ 0 → ⊥) → shares_factor (v + 1) earlier ≡ true → read_bases (suc k) earlier l ≡ refuse 5
  unfolding read_bases field refuse_if
  common_factor f g = rw (e, ev, ne_eqb v 0 f, g) refl

  good_base : (v ≡ 0 → ⊥) → shares_factor (v + 1) earlier ≡ false → read_bases (suc k) earlier l ≡ read_bases k (earlier ++ (v + 1) ∷ []) (drop 8 l)
  unfolding read_bases field refuse_if
  good_base f g = rw (e, ev, ne_eqb v 0 f, g) refl

-- ---- the loop of `read_bases`

pub record BasesLoop (bytes : List ℕ) (axes : ℕ) (bases : List ℕ) (at i : ℕ) : Type 0 where
  pub count : i ≤ axes
  pub place : at ≡ 5 + 8 * i
  pub inside : at ≤ 8 * length bytes
  pub size : length bases ≡ 6
  pub blank : drop i bases ≡ replicate (6 - i) 0
  pub same : read_bases axes [] (drop 5 (bits_of bytes)) ≡ read_bases (axes - i) (take i bases) (drop at (bits_of bytes))

pub bases_start : (bytes : List ℕ) (axes : ℕ) → 5 ≤ 8 * length bytes → BasesLoop bytes axes (replicate 6 0) 5 0
bases_start bytes axes h =
    record {
      count = omega arith;
      place = refl;
      inside = h;
      size = refl;
      blank = refl;
      same = ap (λ (k : ℕ). read_bases k [] (drop 5 (bits_of bytes))) (omega arith);
    }

-- the reading of so many bases, from bit 5 on
abbrev pub bases_reading : List ℕ → ℕ → Step (List ℕ)
bases_reading bytes axes = read_bases axes [] (drop 5 (bits_of bytes))

module _ {bytes : List ℕ} {axes : ℕ} {bases : List ℕ} {at i : ℕ} (inv : BasesLoop bytes axes bases at i) (most : axes ≤ 6) where
  pub bases_end : axes ≤ i → BasesAnswer bytes axes at bases
  unfolding read_bases
  bases_end h =
      let e : i ≡ axes = omega arith in
      let z : axes - i ≡ 0 = omega arith in
      record { step = inv.same ∙ rw (z, e) refl; blank = rw e at inv.blank; size = inv.size; within = inv.inside; near = omega arith }

  module _ (h : i < axes) {r : Bool} (er : r ≡ ltb (length (drop at (bits_of bytes))) 8) where
    turn : bases_reading bytes axes ≡ read_bases (suc (axes - (i + 1))) (take i bases) (drop at (bits_of bytes))
    turn = inv.same ∙ ap (λ (k : ℕ). read_bases k (take i bases) (drop at (bits_of bytes))) (omega arith)

    pub bases_short : r ≡ true → bases_reading bytes axes ≡ refuse 1
    bases_short t = turn ∙ short_base _ _ _ (sym er ∙ t)

    module _ (tr : r ≡ false) {v : ℕ} (ev : v ≡ field_at bytes at 8) where
      pub bases_one : v ≡ 0 → bases_reading bytes axes ≡ refuse 4
      bases_one z = turn ∙ bad_base _ _ _ v (sym er ∙ tr) (field_value bytes at 8 ev) z

      module _ (nz : v ≡ 0 → ⊥) {q : Bool} (eq : q ≡ shares_factor (v + 1) (take i bases)) where
        pub bases_common : q ≡ true → bases_reading bytes axes ≡ refuse 5
        bases_common t = turn ∙ common_factor _ _ _ v (sym er ∙ tr) (field_value bytes at 8 ev) nz (sym eq ∙ t)

        pub bases_next : q ≡ false → {b : ℕ} → b ≡ v + 1 → BasesLoop bytes axes (set bases i b) (at + 8) (i + 1)
        bases_next t {b} eb =
            record {
              count = omega arith;
              place = omega arith;
              inside = long_field bytes at 8 inv.inside er tr;
              size = length-set bases i b ∙ inv.size;
              blank = blank_set 6 i bases b inv.blank;
              same = turn
                  ∙ good_base _ _ _ v (sym er ∙ tr) (field_value bytes at 8 ev) nz (sym eq ∙ t)
                  ∙ rw (← eb)
                  (ap₂ (read_bases (axes - (i + 1))) (sym (rw add-one (take-suc-set bases i b (omega arith)))) (drop-drop 8 at (bits_of bytes)));
            }
