-- Slots, about the call's own answers: a slot is below the slot count, the second of the day is the case of 86,400 on axis 1, and slots whose
-- number divides b^k share any b^k indexes in a row. Assumes nothing.
use mathlib.Core.Path.{◌≡◌, refl, ap, ◌∙◌}
use mathlib.Core.Logic.{◌⊎◌, inl, inr}
use mathlib.Core.Bool.{true, false}
use Prim.Native.Nat.{ℕ, ◌+◌, ◌-◌, ◌*◌, ◌/◌, ◌^◌, ◌≤◌, ◌<◌, ◌∣◌}
use native.Mathlib.Nat.{mul-lt-mul_of_pos_right, div-lt_iff_lt-mul, mul-div_cancel'}
use native.Mathlib.Omega.{arith}
use lib.Dec.{eqb}
use Rattle.numbers.specs.Count.{count}
use Rattle.numbers.specs.Digits.{numerator_to}
use Rattle.numbers.specs.Depth.{depth, denominator}
use Rattle.numbers.proofs.Cases.{lt_or_ge, true_or_false}
use Rattle.numbers.proofs.CountLaws.{count_ext}
use Rattle.numbers.proofs.DepthLaws.{depth_within}
use Rattle.permutation.specs.Families.{image_of}
use Rattle.permutation.proofs.FamilyLaws.{image_permutes}
use Rattle.halton.specs.Axis.{numerator}
use Rattle.discrepancy.proofs.SlotLaws.{slots_share}
use Rattle.points.specs.Point.{numerator_of, denominator_of, slot_of}
use Rattle.points.proofs.ArrayLaws.{numerator_by_base, denominator_by_base, base_range}
use Rattle.state.specs.State.{plan_in, genuine}
use Rattle.state.specs.declared.Sampler.{Sampler}
use Rattle.calls.specs.Calls.{slotted, has_slots, second_spec, slot_spec}
use Rattle.calls.specs.Slots.{base_of_axis, is_slot, SharedEvenly}
use Rattle.calls.specs.declared.Slotted.{Slotted}
use Rattle.calls.proofs.CaseLaws.{second_foreign, second_out, second_done, slots_range, slots_taken, slot_foreign, slot_accepted, slot_out, slot_done}
use Rattle.calls.proofs.PointLaws.{axes_few, known_arrays, known_numerator, known_denominator, fraction_small}

-- ---- the second of the day

module _ (s : Sampler) (n : ℕ) where
  -- Whatever the state and the index: the second is the slot of 86,400 on axis 1.
  pub second_is_slot : second_spec s n ≡ record { code = (slot_spec s n 1 86400).code; second = (slot_spec s n 1 86400).slot }
  second_is_slot = go (true_or_false (genuine s)) (lt_or_ge n (2 ^ 32))
    where
      go : (genuine s ≡ true) ⊎ (genuine s ≡ false) → (n < 2 ^ 32) ⊎ (2 ^ 32 ≤ n)
          → second_spec s n ≡ record { code = (slot_spec s n 1 86400).code; second = (slot_spec s n 1 86400).slot }
      go (inr f) h = rw (second_foreign s n f, slot_foreign s n 1 86400 f) refl
      go (inl g) (inr h) = rw (second_out s n g h, slot_out s n 1 86400 g h) refl
      go (inl g) (inl h) =
          rw (second_done s n g h, slot_done s n 1 86400 g h (slots_taken s.axes 1 86400 (omega arith) (axes_few s g).0 (omega arith) (omega arith))) refl

-- ---- a slot is below the slot count

part_below : (x d slots : ℕ) → x < d → 0 < slots → x * slots / d < slots
part_below x d slots l pos = (div-lt_iff_lt-mul {k = d} (omega arith)).1 (omega (arith, mul-lt-mul_of_pos_right l pos))

module _ (s : Sampler) (n axis slots : ℕ) (z : (slot_spec s n axis slots).code ≡ 0) where
  pub slot_below : (slot_spec s n axis slots).slot < slots
  unfolding slot_of
  slot_below =
      let a = slot_accepted s n axis slots z in
      let r = slots_range s.axes axis slots a.2 in
      rw (slot_done s n axis slots a.0 a.1 a.2)
      (part_below (numerator_of (plan_in s) n (axis - 1)) (denominator_of (plan_in s) (axis - 1)) slots (fraction_small s a.0 (axis - 1) (omega arith) n).0 r.2)

-- ---- slots share indexes in a row

-- on an axis of its own
axis_shares : (family b : ℕ) → 2 ≤ b → (k slots first : ℕ) → slots ∣ b ^ k → b ^ k ≤ 2 ^ 32 → (j : ℕ) → j < slots
    → count (λ t. eqb (numerator (image_of family b) b (first + t) * slots / denominator b) j) (b ^ k) ≡ b ^ k / slots
unfolding numerator denominator
axis_shares family b l k slots first d h j low =
    ap (λ (D : ℕ). count (λ t. eqb (numerator_to (image_of family b) b D (first + t) * slots / b ^ D) j) (b ^ k)) {x = depth b} {y = k + (depth b - k)}
    (omega (arith, depth_within b k l h))
    ∙ slots_share (image_permutes family b l) (omega arith) k (depth b - k) slots (b ^ k / slots) first (mul-div_cancel' slots d) j low

module _ (s : Sampler) (axis slots first : ℕ) (z : (slot_spec s first axis slots).code ≡ 0) (f : s.family ≡ 2 → ⊥) where
  g : genuine s ≡ true
  g = (slot_accepted s first axis slots z).0

  takes : has_slots s.axes axis slots ≡ true
  takes = (slot_accepted s first axis slots z).2

  has : axis - 1 < s.axes
  has = omega (arith, slots_range s.axes axis slots takes)

  abbrev base : ℕ
  base = base_of_axis s axis

  by_base : (n : ℕ) → slot_of (plan_in s) slots n (axis - 1) ≡ numerator (image_of s.family base) base n * slots / denominator base
  unfolding slot_of
  by_base n =
      rw (
        ← known_numerator s g (axis - 1) has n,
        ← known_denominator s g (axis - 1) has n,
        numerator_by_base s.family s.bases s.directions n (axis - 1) f,
        denominator_by_base s.family s.bases (axis - 1) f,
      ) refl

  -- Of any b^k indexes in a row below 2^32, b the base of the axis, each slot has its share, where the slot count divides b^k.
  pub shares_answered : (k : ℕ) → slots ∣ base_of_axis s axis ^ k → first + base_of_axis s axis ^ k ≤ 2 ^ 32
      → SharedEvenly s axis slots first (base_of_axis s axis ^ k)
  shares_answered k d h = record { answered = λ t l. ap (λ (r : Slotted). r.code) (answer t l); share = share }
    where
      answer : (t : ℕ) → t < base ^ k
          → slot_spec s (first + t) axis slots ≡ slotted 0 (slot_of (plan_in s) slots (first + t) (axis - 1))
      answer t l = slot_done s (first + t) axis slots g (omega arith) takes

      share : (j : ℕ) → j < slots → count (is_slot s axis slots first j) (base ^ k) ≡ base ^ k / slots
      share j low =
          count_ext (is_slot s axis slots first j) (λ t. eqb (numerator (image_of s.family base) base (first + t) * slots / denominator base) j) (base ^ k)
          (λ t l. ap (λ (x : ℕ). eqb x j) (ap (λ (r : Slotted). r.slot) (answer t l) ∙ by_base (first + t)))
          ∙ axis_shares s.family base (base_range (known_arrays s g) (axis - 1) has f).0 k slots first d (omega arith) j low
