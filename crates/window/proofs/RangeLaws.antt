-- Which windows are taken, and that the bound is a word. Assumes nothing.
use mathlib.Core.Path.{◌≡◌, refl}
use mathlib.Core.Bool.{true, false, ◌&&◌, and-eq-true_iff}
use mathlib.Core.List.{List}
use Prim.Native.Nat.{ℕ, ◌+◌, ◌*◌, ◌^◌, ◌≤◌, ◌<◌}
use native.Mathlib.Numerals.{add-one}
use native.Mathlib.Omega.{arith}
use lib.Dec.{ltb, leb, eqb}
use lib.ListN.{length, get_or}
use borrow.Author.Tests.{lt-ltb, le-ltb, le-leb, lt-leb, leb-true, ltb-true, eq-eqb, ne_eqb, eqb-true}
use Rattle.numbers.specs.Count.{each}
use Rattle.numbers.specs.Digits.{product_to}
use Rattle.numbers.proofs.EachLaws.{each_at, each_fail}
use Rattle.discrepancy.specs.Bound.{factor, bound}
use Rattle.discrepancy.proofs.FitLaws.{bound_fits}
use Rattle.window.specs.Counting.{Cut, u_of, q_of, base_at, cut_at, cuts_of, is_cut, is_cut_at, is_window, Cuts}
use Rattle.window.specs.Walking.{bound_by, Room}
use Rattle.window.proofs.PlanLaws.{cuts_at}

-- ---- windows that are taken

module _ (c : Cut) where
  pub cut_none : c.q < 1 → is_cut c ≡ false
  unfolding is_cut
  cut_none h = rw (le-ltb 0 c.q (omega arith)) refl

  pub cut_fine : 1 ≤ c.q → 2 ^ 24 < c.q → is_cut c ≡ false
  unfolding is_cut
  cut_fine l h = rw (lt-ltb 0 c.q (omega arith), lt-leb c.q (2 ^ 24) h) refl

  pub cut_by : 1 ≤ c.q → c.q ≤ 2 ^ 24 → leb c.u c.q ≡ is_cut c
  unfolding is_cut
  cut_by l h = rw (lt-ltb 0 c.q (omega arith), le-leb c.q (2 ^ 24) h) refl

  cut_range : is_cut c ≡ true → (0 < c.q) × (c.q ≤ 2 ^ 24) × (c.u ≤ c.q)
  unfolding is_cut
  cut_range e =
      let a = (and-eq-true_iff (ltb 0 c.q) (leb c.q (2 ^ 24) && leb c.u c.q)).0 e in
      let b = (and-eq-true_iff (leb c.q (2 ^ 24)) (leb c.u c.q)).0 a.1 in
      (ltb-true 0 c.q a.0, leb-true c.q (2 ^ 24) b.0, leb-true c.u c.q b.1)

module _ (w : List ℕ) (s : ℕ) where
  pub window_long : (length w ≡ 2 * s → ⊥) → is_window w s ≡ false
  unfolding is_window
  window_long f = rw (ne_eqb (length w) (2 * s) f) refl

  pub window_off : (i : ℕ) → length w ≡ 2 * s → i < s → is_cut_at w i ≡ false → is_window w s ≡ false
  unfolding is_window
  window_off i e l f = rw (eq-eqb (length w) (2 * s) e, each_fail (is_cut_at w) s i l f) refl

  pub window_is : length w ≡ 2 * s → each (is_cut_at w) s ≡ true → is_window w s ≡ true
  unfolding is_window
  window_is e a = rw (eq-eqb (length w) (2 * s) e, a) refl

  module _ (h : is_window w s ≡ true) where
    pub window_parts : (length w ≡ 2 * s) × (each (is_cut_at w) s ≡ true)
    unfolding is_window
    window_parts = let a = (and-eq-true_iff (eqb (length w) (2 * s)) (each (is_cut_at w) s)).0 h in (eqb-true (length w) (2 * s) a.0, a.1)

    -- each of its cuts is in range
    pub range_at : (i : ℕ) → i < s → let c = cut_at w i in (0 < c.q) × (c.q ≤ 2 ^ 24) × (c.u ≤ c.q)
    range_at i l = cut_range (cut_at w i) (each_at (is_cut_at w) s i window_parts.1 l)

    -- such a window has cuts
    pub window_cuts : Cuts (cuts_of w s) s
    window_cuts =
        record { q_pos = λ i l. rw (cuts_at w s i l, q_of) (range_at i l).0; u_le = λ i l. rw (cuts_at w s i l, u_of, q_of) (range_at i l).2 }

    -- and numbers that the walk can multiply
    pub window_room : Room w s
    window_room =
        record {
          enough = omega (arith, window_parts.0);
          u_small = λ i l. let r = range_at i l in omega (arith, r.1, r.2);
          q_pos = λ i l. (range_at i l).0;
          q_small = λ i l. (range_at i l).1;
        }

-- ---- the bound

module _ (bases : List ℕ) (N : ℕ) where
  pub bound_over_none : 1 ≡ bound (base_at bases) 0 N
  unfolding product_to
  bound_over_none = refl

  pub bound_over_more : (s : ℕ) → bound (base_at bases) (s + 1) N ≡ bound (base_at bases) s N * factor (get_or bases s 0) N
  unfolding product_to
  bound_over_more s = rw add-one refl

  pub bound_over_fits : N ≤ 2 ^ 32 → (s : ℕ) → s ≤ 6 → ((i : ℕ) → i < s → (2 ≤ get_or bases i 0) × (get_or bases i 0 ≤ 256)) → bound (base_at bases) s N < 2 ^ 63
  bound_over_fits h s l b = bound_fits N (base_at bases) h s l b

pub bound_sobol : (family : ℕ) (bases : List ℕ) (N s : ℕ) → family ≡ 2 → 0 ≡ bound_by (eqb family 2) bases N s
unfolding bound_by
bound_sobol family bases N s e = rw (eq-eqb family 2 e) refl

pub bound_halton : (family : ℕ) (bases : List ℕ) (N s : ℕ) → (family ≡ 2 → ⊥) → bound (base_at bases) s N ≡ bound_by (eqb family 2) bases N s
unfolding bound_by
bound_halton family bases N s f = rw (ne_eqb family 2 f) refl
