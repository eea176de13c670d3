-- Each answer of each call on a day set comes from its run twin's, on the sampler in it: where the run starts at 0 on each axis the tests are the
-- same, and a point has its number in front. Assumes nothing.
use mathlib.Core.Path.{◌≡◌, refl, sym, ap, ◌∙◌}
use mathlib.Core.Bool.{Bool, true, false, not}
use mathlib.Core.Logic.{⊎_elim}
use mathlib.Core.List.{List, [], ◌∷◌, ◌++◌}
use Prim.Native.Nat.{ℕ, zero, suc, ◌+◌, ◌-◌, ◌*◌, ◌^◌, ◌≤◌, ◌<◌}
use native.Mathlib.Nat.{zero-add}
use native.Mathlib.Omega.{arith}
use lib.Dec.{ltb}
use lib.ListN.{length, take, drop, replicate, length-drop}
use lib.Seq.{drop-drop}
use borrow.Author.Tests.{lt-ltb, le-ltb, le-leb, lt-leb, leb-false}
use Rattle.numbers.proofs.Cases.{lt_or_ge, true_or_false}
use Rattle.plan.specs.Order.{Condition, ◌when◌, first_due, unless_due, unless_number}
use Rattle.plan.proofs.OrderLaws.{none_due}
use Rattle.points.specs.Point.{point_of}
use Rattle.points.specs.Run.{Run, run_of, one_start, start_in_range, run_point}
use Rattle.points.proofs.RunLaws.{one_point}
use Rattle.state.specs.State.{both, made, plan_in, run_in, genuine}
use Rattle.state.specs.declared.Sampler.{Sampler}
use Rattle.state.proofs.SameLaws.{both_true, same_words_is}
use Rattle.calls.specs.Calls.{open_spec, foreign, beyond, spent, run_order, no_point_room, jump_refusals, jump_spec, jump_buf, run_refusals, step_spec, step_buf, rows_spec}
use Rattle.calls.specs.OneStart.{one_refusals, one_open}
use Rattle.calls.specs.declared.Moved.{Moved}
use Rattle.calls.proofs.CaseLaws.{open_foreign, run_cleared}
use Rattle.calls.proofs.PointLaws.{axes_are, axes_few, known_run}
use Rattle.calls.proofs.OneStartLaws.{one_opening}
use Rattle.day_set.specs.DaySet.{day_point, day_points, day_run, day_of, day_made, day_blank, day_plan, day_size, day_taken, day_width, from_zero, genuine_day}
use Rattle.day_set.specs.Calls.{day_moved, day_blocked, too_large, past_day, no_day_room, make_spec, day_jump_refusals, day_jump_spec, day_jump_buf, day_run_refusals, day_step_spec, day_step_buf, day_block_size, day_block_spec, day_block_buf}
use Rattle.day_set.specs.declared.DaySet.{DaySet}
use Rattle.day_set.specs.declared.DayMoved.{DayMoved}

-- ---- the test

module _ (d : DaySet) where
  pub foreign_start : from_zero d.run.starts ≡ false → genuine_day d ≡ false
  unfolding genuine_day both
  foreign_start f = rw f refl

  pub by_run : from_zero d.run.starts ≡ true → genuine_day d ≡ genuine d.run
  unfolding genuine_day both
  by_run e = rw e refl

  pub day_is : genuine_day d ≡ true → (from_zero d.run.starts ≡ true) × (genuine d.run ≡ true)
  unfolding genuine_day
  day_is g = both_true (from_zero d.run.starts) (genuine d.run) g

-- the starts of the axes that a plan has, out of six zeros
zeros_taken : (k n : ℕ) → k ≤ n → take {A = ℕ} k (replicate n 0) ≡ replicate k 0
zeros_taken zero n h = refl
zeros_taken (suc k) zero h = absurd (omega arith)
zeros_taken (suc k) (suc n) h = ap (λ (l : List ℕ). 0 ∷ l) (zeros_taken k n (omega arith))

module _ (s : Sampler) (g : genuine s ≡ true) where
  zeros_are : (N : ℕ) → run_of (take s.axes (replicate 6 0)) N ≡ day_run (plan_in s) N
  unfolding one_start
  zeros_are N = ap (λ (l : List ℕ). run_of l N) (zeros_taken s.axes 6 (axes_few s g).1 ∙ ap (λ (k : ℕ). replicate k 0) (axes_are s g))

  -- from 0 on each axis the run is a day set's
  pub run_is : from_zero s.starts ≡ true → run_in s ≡ day_run (plan_in s) s.count
  run_is e = ap (λ (l : List ℕ). run_of (take s.axes l) s.count) (same_words_is s.starts (replicate 6 0) e) ∙ zeros_are s.count

  -- and step t reads index t
  pub point_is : from_zero s.starts ≡ true → (t : ℕ) → run_point (plan_in s) (run_in s) t ≡ point_of (plan_in s) t
  point_is e t =
      ap (λ (r : Run). run_point (plan_in s) r t) (run_is e) ∙ one_point (plan_in s) 0 s.count t ∙ ap (point_of (plan_in s)) (zero-add t)

-- ---- the conditions

-- a size above 2^32 is no range from 0 on
same_range : (N : ℕ) → not (start_in_range 0 N) ≡ too_large N
unfolding start_in_range
same_range N =
    let none : 0 + N ≡ N = omega arith in
    rw none (⊎_elim (λ l. rw (lt-leb N (2 ^ 32) l, lt-ltb (2 ^ 32) N l) refl) (λ l. rw (le-leb N (2 ^ 32) l, le-ltb (2 ^ 32) N l) refl) (lt_or_ge (2 ^ 32) N))

-- room for a point behind the first word
same_room : (long axes : ℕ) → 1 ≤ axes → ltb (long - 1) axes ≡ ltb long (suc axes)
same_room long axes h =
    ⊎_elim (λ l. lt-ltb (long - 1) axes (omega arith) ∙ sym (lt-ltb long (suc axes) l)) (λ l. le-ltb (long - 1) axes (omega arith) ∙ sym (le-ltb long (suc axes) l))
    (lt_or_ge long (suc axes))

-- ---- a foreign day set

module _ (d : DaySet) (buf : List ℕ) (g : genuine_day d ≡ false) where
  pub day_jump_foreign : (n : ℕ) → (day_jump_spec d n buf ≡ record { code = 15 }) × (day_jump_buf d n buf ≡ buf)
  unfolding day_jump_spec day_jump_buf first_due unless_due
  day_jump_foreign n = (rw g refl, rw g refl)

  pub day_step_foreign : (day_step_spec d buf ≡ day_moved 15 d) × (day_step_buf d buf ≡ buf)
  unfolding day_step_spec day_step_buf first_due unless_due
  day_step_foreign = (rw g refl, rw g refl)

  pub day_block_foreign : (day_block_spec d buf ≡ day_blocked 15 0 d) × (day_block_buf d buf ≡ buf)
  unfolding day_block_spec day_block_buf first_due unless_due
  day_block_foreign = (rw g refl, rw g refl)

-- ---- make

-- the answer, by the opening's
abbrev pub made_by : Moved → DayMoved
made_by a = day_moved a.code (unless_number a.code (day_of a.state) day_blank)

module _ (s : Sampler) (N : ℕ) where
  pub make_wraps : make_spec s N ≡ made_by (open_spec s (day_run (plan_in s) N))
  unfolding make_spec one_open unless_due day_made
  make_wraps = rw (← same_range N) (go (first_due (one_refusals s 0 N))) ∙ ap made_by (sym (one_opening s 0 N))
    where
      opened : Sampler
      opened = made (plan_in s) (day_run (plan_in s) N) 0

      go : (n : ℕ) → day_moved n (unless_number n (day_of opened) day_blank) ≡ day_moved n (unless_number n (day_of (unless_number n opened s)) day_blank)
      go zero = refl
      go (suc n) = refl

  -- by as many zeros as a genuine state has axes; any other is refused whatever the starts
  pub make_zeros : (axes : ℕ) → (genuine s ≡ true → axes ≡ s.axes) → make_spec s N ≡ made_by (open_spec s (run_of (take axes (replicate 6 0)) N))
  make_zeros axes all = make_wraps ∙ ap made_by (⊎_elim known foreign (true_or_false (genuine s)))
    where
      zeros : Run
      zeros = run_of (take axes (replicate 6 0)) N

      known : genuine s ≡ true → open_spec s (day_run (plan_in s) N) ≡ open_spec s zeros
      known g = ap (open_spec s) (sym (ap (λ (k : ℕ). run_of (take k (replicate 6 0)) N) (all g) ∙ zeros_are s g N))

      foreign : genuine s ≡ false → open_spec s (day_run (plan_in s) N) ≡ open_spec s zeros
      foreign f = open_foreign s (day_run (plan_in s) N) f ∙ sym (open_foreign s zeros f)

-- ---- jump, step and block of a day set whose run starts at 0 on each axis

-- two orders that begin with 15 are the same where the rest is, on a genuine state
known_order : (g : Bool) (rest rest' : List Condition) → (g ≡ true → first_due rest ≡ first_due rest')
    → first_due (15 when not g ∷ rest) ≡ first_due (15 when not g ∷ rest')
unfolding first_due
known_order true rest rest' f = f refl
known_order false rest rest' f = refl

module _ (d : DaySet) (e : from_zero d.run.starts ≡ true) (buf : List ℕ) where
  -- what lies behind a point
  behind : drop d.run.axes (drop 1 buf) ≡ drop (day_width d) buf
  behind = let one : 1 + d.run.axes ≡ day_width d = omega arith in drop-drop d.run.axes 1 buf ∙ ap (λ (k : ℕ). drop k buf) one

  -- ---- jump

  module _ (n index : ℕ) (below : n < day_size d → index ≡ n) (past : day_size d ≤ n → index ≡ 2 ^ 32) where
    same_reach : genuine d.run ≡ true
        → first_due (11 when past_day d n ∷ 13 when no_day_room d buf ∷ []) ≡ first_due (11 when beyond index ∷ 13 when no_point_room d.run (drop 1 buf) ∷ [])
    unfolding first_due
    same_reach g =
        let size = (known_run d.run g).0.at 0 in
        rw (length-drop, same_room (length buf) d.run.axes (axes_few d.run g).0)
        (⊎_elim
        (λ l. rw (lt-leb (day_size d) n l, below l, lt-leb (2 ^ 32) n (omega arith)) refl)
        (λ l. rw (le-leb (day_size d) n l, past l) refl) (lt_or_ge n (day_size d)))

    same_jump : first_due (day_jump_refusals d n buf) ≡ first_due (jump_refusals d.run index (drop 1 buf))
    same_jump = rw (by_run d e) (known_order (genuine d.run) _ _ same_reach)

    -- an index that the jump takes is the point's number
    index_is : first_due (jump_refusals d.run index (drop 1 buf)) ≡ 0 → index ≡ n
    index_is z =
        let l = leb-false (2 ^ 32) index (none_due 10 (beyond index) _ (none_due 14 (foreign d.run) _ z).1).0 in
        ⊎_elim below (λ h. absurd (omega (arith, past h))) (lt_or_ge n (day_size d))

    pub jump_wraps : (day_jump_spec d n buf ≡ jump_spec d.run index (drop 1 buf))
        × (day_jump_buf d n buf ≡ unless_number (jump_spec d.run index (drop 1 buf)).code (n ∷ jump_buf d.run index (drop 1 buf)) buf)
    unfolding day_jump_spec day_jump_buf jump_spec jump_buf unless_due day_point
    jump_wraps = (rw same_jump refl, rw same_jump (go (first_due (jump_refusals d.run index (drop 1 buf))) refl))
      where
        go : (k : ℕ) → first_due (jump_refusals d.run index (drop 1 buf)) ≡ k
            → unless_number k (day_point (day_plan d) n ++ drop (day_width d) buf) buf
            ≡ unless_number k (n ∷ unless_number k (point_of (plan_in d.run) index ++ drop d.run.axes (drop 1 buf)) (drop 1 buf)) buf
        go zero z = rw (index_is z, behind) refl
        go (suc k) z = refl

  -- ---- step

  same_step : first_due (day_run_refusals d buf) ≡ first_due (run_refusals d.run (drop 1 buf))
  same_step =
      rw (by_run d e) (known_order (genuine d.run) _ _
      (λ g. rw (length-drop, same_room (length buf) d.run.axes (axes_few d.run g).0) refl))

  pub step_wraps : let a = step_spec d.run (drop 1 buf) in
      (day_step_spec d buf ≡ day_moved a.code (day_of a.state))
      × (day_step_buf d buf ≡ unless_number a.code (day_taken d ∷ step_buf d.run (drop 1 buf)) buf)
  unfolding day_step_spec day_step_buf step_spec step_buf unless_due day_point day_made
  step_wraps = (rw same_step (state_is (first_due order) refl), rw same_step (words_are (first_due order) refl))
    where
      order : List Condition
      order = run_refusals d.run (drop 1 buf)

      known : first_due order ≡ 0 → genuine d.run ≡ true
      known z = (run_cleared (genuine d.run) d.run (drop 1 buf) d.run.axes z).0

      state_is : (k : ℕ) → first_due order ≡ k → day_moved k (unless_number k (day_of (made (day_plan d) (day_run (day_plan d) (day_size d)) (day_taken d + 1))) d)
          ≡ day_moved k (day_of (unless_number k (made (plan_in d.run) (run_in d.run) (d.run.taken + 1)) d.run))
      state_is zero z = ap (λ (r : Run). day_moved 0 (day_of (made (day_plan d) r (day_taken d + 1)))) (sym (run_is d.run (known z) e))
      state_is (suc k) z = refl

      words_are : (k : ℕ) → first_due order ≡ k → unless_number k (day_point (day_plan d) (day_taken d) ++ drop (day_width d) buf) buf
          ≡ unless_number k (day_taken d ∷ unless_number k (run_point (plan_in d.run) (run_in d.run) d.run.taken ++ drop d.run.axes (drop 1 buf)) (drop 1 buf)) buf
      words_are zero z = rw (point_is d.run (known z) e (day_taken d), behind) refl
      words_are (suc k) z = refl

  -- ---- block

  pub block_wraps : let a = rows_spec 1 d.run buf in
      (day_block_spec d buf ≡ day_blocked a.code a.points (day_of a.state))
      × (day_block_buf d buf ≡ unless_number a.code (day_points (day_plan d) (day_taken d) a.points ++ drop (a.points * day_width d) buf) buf)
  unfolding day_block_spec day_block_buf rows_spec unless_due day_made
  block_wraps =
      let one : 1 + d.run.axes ≡ day_width d = omega arith in
      (rw (by_run d e, one) (state_is (first_due order) refl), rw (by_run d e, one) (words_are (first_due order)))
    where
      order : List Condition
      order = run_order (foreign d.run) (spent d.run) (no_day_room d buf)

      k : ℕ
      k = day_block_size d buf

      state_is : (n : ℕ) → first_due order ≡ n
          → day_blocked n (unless_number n k 0) (unless_number n (day_of (made (day_plan d) (day_run (day_plan d) (day_size d)) (day_taken d + k))) d)
          ≡ day_blocked n (unless_number n k 0) (day_of (unless_number n (made (plan_in d.run) (run_in d.run) (d.run.taken + k)) d.run))
      state_is zero z =
          let known = (run_cleared (genuine d.run) d.run buf (day_width d) z).0 in
          ap (λ (r : Run). day_blocked 0 k (day_of (made (day_plan d) r (day_taken d + k)))) (sym (run_is d.run known e))
      state_is (suc n) z = refl

      words_are : (n : ℕ) → unless_number n (day_points (day_plan d) (day_taken d) k ++ drop (k * day_width d) buf) buf
          ≡ unless_number n (day_points (day_plan d) (day_taken d) (unless_number n k 0) ++ drop (unless_number n k 0 * day_width d) buf) buf
      words_are zero = refl
      words_are (suc n) = refl
