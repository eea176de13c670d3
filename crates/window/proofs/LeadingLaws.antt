-- A window with one axis in front of others: the leading cut, and the window of the others. Assumes nothing.
use mathlib.Core.Path.{◌≡◌, sym, ap, ◌∙◌}
use mathlib.Core.Bool.{true}
use mathlib.Core.List.{List}
use Prim.Native.Nat.{ℕ, suc, ◌+◌, ◌*◌, ◌<◌}
use native.Mathlib.Omega.{arith}
use lib.ListN.{length, get_or, drop, length-drop}
use lib.Seq.{get_or-drop, ext_get_or}
use Rattle.numbers.proofs.DigitLaws.{product_front}
use Rattle.numbers.proofs.EachLaws.{each_at, each_all}
use Rattle.window.specs.Counting.{Cut, no_cut, u_of, q_of, u_product, q_product, Cuts, cut_at, cuts_of, is_cut, is_cut_at, is_window}
use Rattle.window.proofs.PlanLaws.{cuts_length, cuts_at}
use Rattle.window.proofs.RangeLaws.{window_is, window_parts}

-- ---- a list of cuts

module _ (w : List Cut) where
  pub cut_next : (i : ℕ) → get_or (drop 1 w) i no_cut ≡ get_or w (suc i) no_cut
  cut_next i = get_or-drop 1 w i no_cut ∙ ap (λ (j : ℕ). get_or w j no_cut) (omega arith)

  pub u_front : (s : ℕ) → u_product w (suc s) ≡ u_of w 0 * u_product (drop 1 w) s
  u_front = product_front (u_of w) (u_of (drop 1 w)) (λ i. ap (λ (c : Cut). c.u) (sym (cut_next i)))

  pub q_front : (s : ℕ) → q_product w (suc s) ≡ q_of w 0 * q_product (drop 1 w) s
  q_front = product_front (q_of w) (q_of (drop 1 w)) (λ i. ap (λ (c : Cut). c.q) (sym (cut_next i)))

  pub rest_cuts : (s : ℕ) → Cuts w (suc s) → Cuts (drop 1 w) s
  rest_cuts s c =
      record { q_pos = λ i l. rw (cut_next i, q_of) (c.q_pos (suc i) (omega arith)); u_le = λ i l. rw (cut_next i, u_of, q_of) (c.u_le (suc i) (omega arith)) }

-- ---- a list of numbers

module _ (w : List ℕ) where
  cut_at_next : (i : ℕ) → cut_at (drop 2 w) i ≡ cut_at w (suc i)
  cut_at_next i =
      let u : 2 + 2 * i ≡ 2 * suc i = omega arith in
      let q : 2 + (2 * i + 1) ≡ 2 * suc i + 1 = omega arith in
      rw (get_or-drop 2 w (2 * i) 0, get_or-drop 2 w (2 * i + 1) 0, u, q)

  pub cuts_rest : (s : ℕ) → drop 1 (cuts_of w (suc s)) ≡ cuts_of (drop 2 w) s
  cuts_rest s =
      ext_get_or no_cut (drop 1 (cuts_of w (suc s))) (cuts_of (drop 2 w) s) (long ∙ sym (cuts_length (drop 2 w) s))
      (λ i l.
      let h : i < s = omega (arith, long) in
      cut_next (cuts_of w (suc s)) i ∙ cuts_at w (suc s) (suc i) (omega arith) ∙ sym (cuts_at (drop 2 w) s i h ∙ cut_at_next i))
    where
      long : length (drop 1 (cuts_of w (suc s))) ≡ s
      long = rw (length-drop, cuts_length) (omega arith)

  pub window_rest : (s : ℕ) → is_window w (suc s) ≡ true → is_window (drop 2 w) s ≡ true
  window_rest s h =
      let p = window_parts w (suc s) h in
      window_is (drop 2 w) s (rw length-drop (omega (arith, p.0)))
      (each_all (is_cut_at (drop 2 w)) s (λ i l. ap is_cut (cut_at_next i) ∙ each_at (is_cut_at w) (suc s) (suc i) p.1 (omega arith)))
