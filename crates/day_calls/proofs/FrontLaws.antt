-- A point written behind the first word of a buffer, and its number into that word; and when the calls on the run do so. Assumes nothing.
use mathlib.Core.Path.{◌≡◌, refl, sym, ap, ◌∙◌}
use mathlib.Core.List.{List, [], ◌∷◌, ◌++◌, append-nil}
use Prim.Native.Nat.{ℕ, zero, suc, ◌-◌, ◌≤◌, ◌<◌}
use native.Mathlib.Omega.{arith}
use lib.ListN.{length, set, take, drop, length-drop}
use lib.Seq.{take-length, drop-length}
use borrow.Author.Tests.{ltb-false, not-false}
use Rattle.plan.specs.Order.{unless_number, unless_due}
use Rattle.plan.proofs.OrderLaws.{none_due}
use Rattle.state.specs.State.{genuine}
use Rattle.state.specs.declared.Sampler.{Sampler}
use Rattle.calls.specs.Calls.{foreign, beyond, no_point_room, jump_spec, jump_buf, step_spec, step_buf}
use Rattle.calls.proofs.CaseLaws.{run_cleared, step_refused}
use Rattle.calls.proofs.PointLaws.{axes_few}

module _ (buf : List ℕ) (first : ℕ) (one : first ≤ 1) (within : first ≤ length buf) (most : (x : ℕ) → x < 1 → x < length buf → x < first) where
  -- the words that are lent from `first` on
  abbrev pub lent_from : List ℕ
  lent_from = take (length buf - first) (drop first buf)

  -- the whole buffer once they are back
  abbrev pub whole_with : List ℕ → List ℕ
  whole_with part = take first buf ++ (part ++ drop (length buf - first) (drop first buf))

  nothing_behind : drop (length buf - first) (drop first buf) ≡ []
  nothing_behind = ap (λ (k : ℕ). drop k (drop first buf)) (sym (length-drop first buf)) ∙ drop-length (drop first buf)

  pub lent_is : lent_from ≡ drop 1 buf
  lent_is = ap (λ (k : ℕ). take k (drop first buf)) (sym (length-drop first buf)) ∙ take-length (drop first buf) ∙ go buf within most
    where
      go : (l : List ℕ) → first ≤ length l → ((x : ℕ) → x < 1 → x < length l → x < first) → drop first l ≡ drop 1 l
      go [] w m = let none : first ≡ 0 = omega arith in rw none refl
      go (x ∷ l) w m = let is : first ≡ 1 = omega (arith, m 0 (omega arith) (omega arith)) in rw is refl

  whole_is : (part : List ℕ) → whole_with part ≡ take first buf ++ part
  whole_is part = ap (λ (x : List ℕ). take first buf ++ x) (ap (λ (x : List ℕ). part ++ x) nothing_behind ∙ append-nil part)

  kept : whole_with (drop 1 buf) ≡ buf
  kept = whole_is (drop 1 buf) ∙ go buf within most
    where
      go : (l : List ℕ) → first ≤ length l → ((x : ℕ) → x < 1 → x < length l → x < first) → take first l ++ drop 1 l ≡ l
      go [] w m = let none : first ≡ 0 = omega arith in rw none refl
      go (x ∷ l) w m = let is : first ≡ 1 = omega (arith, m 0 (omega arith) (omega arith)) in rw is refl

  numbered : (part : List ℕ) (n : ℕ) → 1 ≤ length buf → set (whole_with part) 0 n ≡ n ∷ part
  numbered part n h = ap (λ (x : List ℕ). set x 0 n) (whole_is part) ∙ go buf h within most
    where
      go : (l : List ℕ) → 1 ≤ length l → first ≤ length l → ((x : ℕ) → x < 1 → x < length l → x < first) → set (take first l ++ part) 0 n ≡ n ∷ part
      go [] a w m = absurd (omega arith)
      go (x ∷ l) a w m = let is : first ≡ 1 = omega (arith, m 0 (omega arith) (omega arith)) in rw is refl

  pub whole_long : (part : List ℕ) → 1 ≤ length buf → 1 ≤ length (whole_with part)
  whole_long part h = rw (whole_is part) (go buf h within most)
    where
      go : (l : List ℕ) → 1 ≤ length l → first ≤ length l → ((x : ℕ) → x < 1 → x < length l → x < first) → 1 ≤ length (take first l ++ part)
      go [] a w m = absurd (omega arith)
      go (x ∷ l) a w m = let is : first ≡ 1 = omega (arith, m 0 (omega arith) (omega arith)) in rw is (omega arith)

  -- what is left in the buffer, by the call's number
  pub put_is : (code n : ℕ) (part : List ℕ) → (code ≡ 0 → 1 ≤ length buf) → ((k : ℕ) → code ≡ suc k → part ≡ drop 1 buf)
      → unless_number code (set (whole_with part) 0 n) (whole_with part) ≡ unless_number code (n ∷ part) buf
  put_is zero n part room same = numbered part n (room refl)
  put_is (suc k) n part room same = ap whole_with (same k refl) ∙ kept

-- ---- the calls on the run

module _ (s : Sampler) (buf : List ℕ) where
  pub step_room : (step_spec s (drop 1 buf)).code ≡ 0 → 1 ≤ length buf
  unfolding step_spec
  step_room z = let c = run_cleared (genuine s) s (drop 1 buf) s.axes z in omega (arith, c.2, (axes_few s c.0).0, length-drop 1 buf)

  pub step_kept : (k : ℕ) → (step_spec s buf).code ≡ suc k → step_buf s buf ≡ buf
  unfolding step_spec
  step_kept k e = (step_refused s buf k e).1

module _ (s : Sampler) (n : ℕ) (buf : List ℕ) where
  pub jump_room : (jump_spec s n (drop 1 buf)).code ≡ 0 → 1 ≤ length buf
  unfolding jump_spec
  jump_room z =
      let a = none_due 14 (foreign s) _ z in
      let b = none_due 10 (beyond n) _ a.1 in
      let r = ltb-false (length (drop 1 buf)) s.axes (none_due 12 (no_point_room s (drop 1 buf)) [] b.1).0 in
      omega (arith, r, (axes_few s (not-false (genuine s) a.0)).0, length-drop 1 buf)

  pub jump_kept : (k : ℕ) → (jump_spec s n buf).code ≡ suc k → jump_buf s n buf ≡ buf
  unfolding jump_spec jump_buf unless_due
  jump_kept k e = rw e refl
