-- The writer's answer, from the bits of the plan in a buffer of their own and the copy of its bytes. Assumes nothing.
use mathlib.Core.Path.{◌≡◌, refl, sym, ap, ◌∙◌}
use mathlib.Core.List.{List}
use mathlib.Core.Bool.{true, false}
use Prim.Native.Nat.{ℕ, ◌-◌, ◌*◌, ◌<◌, ◌≤◌}
use native.Mathlib.Omega.{arith}
use lib.Dec.{ltb}
use lib.ListN.{length, take}
use borrow.Author.Tests.{lt-ltb, le-ltb}
use Rattle.bits.specs.Stream.{to_bits, AllBelow, overwrite, bytes_for}
use Rattle.bits.proofs.OverwriteLaws.{over_start}
use Rattle.bits.proofs.PackLaws.{packed_front}
use Rattle.plan.specs.Plan.{Plan, plan_bits, spell}
use Rattle.plan.proofs.SpellingLaws.{length_spell, below_plan_bits}
use Rattle.axes_writer.specs.Parts.{BitsPut}
use Rattle.axes_writer.proofs.PartLaws.{put_then}
use Rattle.writer.specs.Parts.{Written}

-- the plan's bits were put into a buffer, and len is how many bytes they need
module _ (p : Plan) {z b : List ℕ} {n : ℕ} (len : ℕ) (plan : BitsPut z b 0 (plan_bits p) n) (el : len ≡ bytes_for n) where
  count : n ≡ length (plan_bits p)
  count = omega arith

  same_length : length (spell p) ≡ len
  same_length = length_spell p ∙ ap bytes_for (sym count) ∙ sym el

  pub no_room_lem : (old : List ℕ) → length old < len → Written p old old 13 0
  no_room_lem old h =
      let t : ltb (length old) (length (spell p)) ≡ true = lt-ltb (length old) (length (spell p)) (rw same_length h) in
      record { answer = rw t refl; reported = rw t refl; bytes = rw t refl }

  -- d is the buffer with zero bits after them
  pub has_room : {d old new : List ℕ} {end : ℕ} → BitsPut b d n (to_bits (8 * len - n) 0) end → len ≤ length old → AllBelow 256 (take len d)
      → new ≡ overwrite old 0 (take len d) → Written p old new 0 len
  unfolding spell
  has_room {d} {old} filling h bytes copied =
      let t : ltb (length old) (length (spell p)) ≡ false = le-ltb (length old) (length (spell p)) (rw same_length h) in
      let whole = put_then (omega arith) plan filling in
      let front : take len d ≡ spell p = rw el (packed_front (plan_bits p) z d n (below_plan_bits p) (rw el at bytes) count (rw el at whole.bits)) in
      record { answer = rw t refl; reported = rw t (sym same_length); bytes = rw t (copied ∙ rw front (over_start old (spell p) (length (spell p)) refl)) }
