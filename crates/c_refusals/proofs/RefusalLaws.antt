-- Each number from the tests that lead to it. Assumes nothing.
use mathlib.Core.Path.{◌≡◌, refl}
use mathlib.Core.Bool.{Bool, true, false, not}
use mathlib.Core.List.{[]}
use Prim.Native.Nat.{ℕ, ◌*◌, ◌^◌, ◌<◌, ◌≤◌}
use lib.Dec.{ltb, leb}
use borrow.Author.Tests.{lt-ltb, le-ltb, le-leb, lt-leb, leb-false, ltb-false, not-false}
use Rattle.plan.specs.Order.{first_due}
use Rattle.plan.proofs.OrderLaws.{none_due}
use Rattle.points.specs.Run.{start_in_range}
use Rattle.c_refusals.specs.Refusals.{point_refusals, count_refusals}

-- ---- when a point is turned down

module _ (index s room : ℕ) where
  pub point_out : 2 ^ 32 ≤ index → 11 ≡ first_due (point_refusals index s room)
  unfolding first_due
  point_out h = rw (le-leb (2 ^ 32) index h) refl

  module _ (h : index < 2 ^ 32) where
    pub point_no_room : room < 8 * s → 13 ≡ first_due (point_refusals index s room)
    unfolding first_due
    point_no_room r = rw (lt-leb (2 ^ 32) index h, lt-ltb room (8 * s) r) refl

    pub point_none : 8 * s ≤ room → 0 ≡ first_due (point_refusals index s room)
    unfolding first_due
    point_none r = rw (lt-leb (2 ^ 32) index h, le-ltb room (8 * s) r) refl

  -- it is not: each test passes
  pub point_zero : first_due (point_refusals index s room) ≡ 0 → (index < 2 ^ 32) × (8 * s ≤ room)
  point_zero z =
      let a = none_due 10 (leb (2 ^ 32) index) _ z in
      (leb-false (2 ^ 32) index a.0, ltb-false room (8 * s) (none_due 12 (ltb room (8 * s)) [] a.1).0)

-- ---- when a count is turned down

module _ (start count : ℕ) (w : Bool) (room : ℕ) where
  pub count_out : start_in_range start count ≡ false → 11 ≡ first_due (count_refusals start count w room)
  unfolding first_due
  count_out h = rw h refl

  module _ (h : start_in_range start count ≡ true) where
    pub count_off : w ≡ false → 14 ≡ first_due (count_refusals start count w room)
    unfolding first_due
    count_off f = rw (h, f) refl

    module _ (t : w ≡ true) where
      pub count_no_room : room < 16 → 13 ≡ first_due (count_refusals start count w room)
      unfolding first_due
      count_no_room l = rw (h, t, lt-ltb room 16 l) refl

      pub count_none : 16 ≤ room → 0 ≡ first_due (count_refusals start count w room)
      unfolding first_due
      count_none l = rw (h, t, le-ltb room 16 l) refl

  -- it is not: each test passes
  pub count_zero : first_due (count_refusals start count w room) ≡ 0 → (start_in_range start count ≡ true) × (w ≡ true) × (16 ≤ room)
  count_zero z =
      let a = none_due 10 (not (start_in_range start count)) _ z in
      let b = none_due 13 (not w) _ a.1 in
      (not-false (start_in_range start count) a.0, not-false w b.0, ltb-false room 16 (none_due 12 (ltb room 16) [] b.1).0)
