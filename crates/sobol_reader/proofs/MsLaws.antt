-- Reading the m's of a Sobol axis: one of them by the tests, and the loop over them. Assumes nothing.
use mathlib.Core.Path.{◌≡◌, refl, sym, ap, ap₂, ◌∙◌}
use mathlib.Core.Bool.{Bool, true, false}
use mathlib.Core.List.{List, [], ◌∷◌, ◌++◌}
use Prim.Native.Nat.{ℕ, suc, ◌+◌, ◌-◌, ◌*◌, ◌%◌, ◌<◌, ◌≤◌}
use native.Mathlib.Numerals.{add-one}
use native.Mathlib.Omega.{arith}
use lib.Bits.{bit_and}
use lib.Dec.{ltb}
use lib.ListN.{length, take, drop, replicate, set, length-set}
use lib.Seq.{drop-drop, take-suc-set}
use borrow.Author.Tests.{eq-eqb, ne_eqb}
use Rattle.bits.specs.Stream.{of_bits, bits_of, field_at}
use Rattle.bits.proofs.ByteLaws.{lowest_bit}
use Rattle.plan.specs.Reading.{Step, refuse, refuse_if, field, read_ms}
use Rattle.sobol_reader.specs.Axes.{MsAnswer}
use Rattle.plan.proofs.BlankLaws.{blank_set}
use Rattle.plan.proofs.PartLaws.{long_field, field_value}

-- ---- one m of the reading, by the tests

short_m : (k i : ℕ) (earlier l : List ℕ) → ltb (length l) i ≡ true → read_ms (suc k) i earlier l ≡ refuse 1
unfolding read_ms field refuse_if
short_m k i earlier l e = rw e refl

module _ (k i : ℕ) (earlier l : List ℕ) (m : ℕ) (e : ltb (length l) i ≡ false) (em : of_bits (take i l) ≡ m) where
  even_m : bit_and m 1 ≡ 0 → read_ms (suc k) i earlier l ≡ refuse 8
  unfolding read_ms field refuse_if
  even_m f = rw (e, em, eq-eqb (m % 2) 0 (sym (lowest_bit m) ∙ f)) refl

  odd_m : (bit_and m 1 ≡ 0 → ⊥) → read_ms (suc k) i earlier l ≡ read_ms k (i + 1) (earlier ++ m ∷ []) (drop i l)
  unfolding read_ms field refuse_if
  odd_m f = rw (e, em, ne_eqb (m % 2) 0 (λ z. f (lowest_bit m ∙ z))) refl

-- ---- the loop of `read_ms`

pub record MsLoop (bytes : List ℕ) (start degree : ℕ) (ms : List ℕ) (at i : ℕ) : Type 0 where
  pub count : i ≤ degree
  pub near : at ≤ start + 12 * i
  pub inside : at ≤ 8 * length bytes
  pub size : length ms ≡ 12
  pub blank : drop i ms ≡ replicate (12 - i) 0
  pub same : read_ms degree 1 [] (drop start (bits_of bytes)) ≡ read_ms (degree - i) (i + 1) (take i ms) (drop at (bits_of bytes))

pub ms_start : (bytes : List ℕ) (start degree : ℕ) → start ≤ 8 * length bytes → MsLoop bytes start degree (replicate 12 0) start 0
ms_start bytes start degree h =
    record {
      count = omega arith;
      near = omega arith;
      inside = h;
      size = refl;
      blank = refl;
      same = ap (λ (k : ℕ). read_ms k 1 [] (drop start (bits_of bytes))) (omega arith);
    }

-- the reading of so many m's, from bit `start` on
abbrev pub ms_reading : List ℕ → ℕ → ℕ → Step (List ℕ)
ms_reading bytes start degree = read_ms degree 1 [] (drop start (bits_of bytes))

module _ {bytes : List ℕ} {start degree : ℕ} {ms : List ℕ} {at i : ℕ} (inv : MsLoop bytes start degree ms at i) (most : degree ≤ 12) where
  pub ms_end : degree ≤ i → MsAnswer bytes start degree at ms
  unfolding read_ms
  ms_end h =
      let e : i ≡ degree = omega arith in
      let z : degree - i ≡ 0 = omega arith in
      record { step = inv.same ∙ rw (z, e) refl; blank = rw e at inv.blank; size = inv.size; within = inv.inside; near = omega arith }

  module _ (h : i < degree) {r : Bool} (er : r ≡ ltb (length (drop at (bits_of bytes))) (i + 1)) where
    turn : ms_reading bytes start degree ≡ read_ms (suc (degree - (i + 1))) (i + 1) (take i ms) (drop at (bits_of bytes))
    turn = inv.same ∙ ap (λ (k : ℕ). read_ms k (i + 1) (take i ms) (drop at (bits_of bytes))) (omega arith)

    pub ms_short : r ≡ true → ms_reading bytes start degree ≡ refuse 1
    ms_short t = turn ∙ short_m _ _ _ _ (sym er ∙ t)

    module _ (tr : r ≡ false) {m : ℕ} (em : m ≡ field_at bytes at (i + 1)) where
      pub ms_even : bit_and m 1 ≡ 0 → ms_reading bytes start degree ≡ refuse 8
      ms_even z = turn ∙ even_m _ _ _ _ m (sym er ∙ tr) (field_value bytes at (i + 1) em) z

      pub ms_next : (bit_and m 1 ≡ 0 → ⊥) → MsLoop bytes start degree (set ms i m) (at + (i + 1)) (i + 1)
      ms_next z =
          record {
            count = omega arith;
            near = omega arith;
            inside = long_field bytes at (i + 1) inv.inside er tr;
            size = length-set ms i m ∙ inv.size;
            blank = blank_set 12 i ms m inv.blank;
            same = turn
                ∙ odd_m _ _ _ _ m (sym er ∙ tr) (field_value bytes at (i + 1) em) z
                ∙ ap₂ (read_ms (degree - (i + 1)) (i + 1 + 1)) (sym (rw add-one (take-suc-set ms i m (omega arith)))) (drop-drop (i + 1) at (bits_of bytes));
          }
