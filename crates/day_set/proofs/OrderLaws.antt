-- Each number of each call on a day set, from the tests that lead to it, and what the call then answers. Assumes nothing.
use mathlib.Core.Path.{◌≡◌, refl}
use mathlib.Core.Bool.{true, false}
use mathlib.Core.List.{List, [], ◌++◌}
use Prim.Native.Nat.{ℕ, suc, ◌+◌, ◌*◌, ◌^◌, ◌≤◌, ◌<◌}
use lib.ListN.{length, drop}
use borrow.Author.Tests.{lt-ltb, le-ltb, le-leb, lt-leb, ltb-false, not-false}
use Rattle.plan.specs.Order.{first_due, unless_due}
use Rattle.plan.proofs.OrderLaws.{none_due}
use Rattle.state.specs.State.{plan_in, genuine}
use Rattle.state.specs.declared.Sampler.{Sampler}
use Rattle.calls.specs.Calls.{foreign}
use Rattle.day_set.specs.DaySet.{day_point, day_points, day_made, day_blank, day_plan, day_size, day_taken, day_width, genuine_day}
use Rattle.day_set.specs.Calls.{day_moved, day_blocked, too_large, make_spec, day_jump_spec, day_jump_buf, day_run_refusals, day_step_spec, day_step_buf, day_block_size, day_block_spec, day_block_buf}
use Rattle.day_set.specs.declared.DaySet.{DaySet}

-- ---- make

module _ (s : Sampler) (N : ℕ) where
  pub make_foreign : genuine s ≡ false → make_spec s N ≡ day_moved 15 day_blank
  unfolding make_spec first_due unless_due
  make_foreign g = rw g refl

  -- where it is accepted, the state is genuine and the size is at most 2^32
  pub make_accepted : (make_spec s N).code ≡ 0 → (genuine s ≡ true) × (N ≤ 2 ^ 32)
  unfolding make_spec
  make_accepted z =
      let a = none_due 14 (foreign s) _ z in
      (not-false (genuine s) a.0, ltb-false (2 ^ 32) N (none_due 10 (too_large N) [] a.1).0)

  module _ (g : genuine s ≡ true) where
    pub make_large : 2 ^ 32 < N → make_spec s N ≡ day_moved 11 day_blank
    unfolding make_spec first_due unless_due
    make_large h = rw (g, lt-ltb (2 ^ 32) N h) refl

    pub make_done : N ≤ 2 ^ 32 → make_spec s N ≡ day_moved 0 (day_made (plan_in s) N 0)
    unfolding make_spec first_due unless_due
    make_done h = rw (g, le-ltb (2 ^ 32) N h) refl

-- ---- jump

module _ (d : DaySet) (n : ℕ) (buf : List ℕ) (g : genuine_day d ≡ true) where
  pub day_jump_past : day_size d ≤ n → (day_jump_spec d n buf ≡ record { code = 11 }) × (day_jump_buf d n buf ≡ buf)
  unfolding day_jump_spec day_jump_buf first_due unless_due
  day_jump_past h = let l = le-leb (day_size d) n h in (rw (g, l) refl, rw (g, l) refl)

  pub day_jump_done : n < day_size d → day_width d ≤ length buf
      → (day_jump_spec d n buf ≡ record { code = 0 }) × (day_jump_buf d n buf ≡ day_point (day_plan d) n ++ drop (day_width d) buf)
  unfolding day_jump_spec day_jump_buf first_due unless_due
  day_jump_done h k =
      let l = lt-leb (day_size d) n h in
      let r = le-ltb (length buf) (day_width d) k in (rw (g, l, r) refl, rw (g, l, r) refl)

-- ---- step and block

module _ (d : DaySet) (buf : List ℕ) where
  module _ (n : ℕ) (e : first_due (day_run_refusals d buf) ≡ suc n) where
    pub day_step_refused : (day_step_spec d buf ≡ day_moved (suc n) d) × (day_step_buf d buf ≡ buf)
    unfolding day_step_spec day_step_buf unless_due
    day_step_refused = (rw e refl, rw e refl)

    pub day_block_refused : (day_block_spec d buf ≡ day_blocked (suc n) 0 d) × (day_block_buf d buf ≡ buf)
    unfolding day_block_spec day_block_buf unless_due
    day_block_refused = (rw e refl, rw e refl)

  module _ (e : first_due (day_run_refusals d buf) ≡ 0) where
    pub day_step_done : (day_step_spec d buf ≡ day_moved 0 (day_made (day_plan d) (day_size d) (day_taken d + 1)))
        × (day_step_buf d buf ≡ day_point (day_plan d) (day_taken d) ++ drop (day_width d) buf)
    unfolding day_step_spec day_step_buf unless_due
    day_step_done = (rw e refl, rw e refl)

    pub day_block_done : (day_block_spec d buf ≡ day_blocked 0 (day_block_size d buf) (day_made (day_plan d) (day_size d) (day_taken d + day_block_size d buf)))
        × (day_block_buf d buf ≡ day_points (day_plan d) (day_taken d) (day_block_size d buf) ++ drop (day_block_size d buf * day_width d) buf)
    unfolding day_block_spec day_block_buf unless_due
    day_block_done = (rw e refl, rw e refl)
