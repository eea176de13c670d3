-- The header and the axes, each written by itself, come to the plan's bits. Assumes nothing.
use mathlib.Core.Path.{◌≡◌}
use mathlib.Core.List.{List}
use Prim.Native.Nat.{ℕ, ◌≤◌}
use native.Mathlib.Omega.{arith}
use lib.ListN.{length, take}
use lib.Seq.{length-take-le}
use borrow.Author.Tests.{ne_eqb}
use Rattle.bits.specs.Stream.{to_bits}
use Rattle.plan.specs.Plan.{header_bits, bases_bits, axes_bits, plan_bits}
use Rattle.plan.specs.Answer.{axes_of, plan_by, plan_of}
use Rattle.plan.proofs.AnswerLaws.{length_axes}
use Rattle.axes_writer.specs.Parts.{BitsPut}
use Rattle.axes_writer.proofs.PartLaws.{put_then}

pub put_header : {old mid new : List ℕ} (family axes : ℕ) → BitsPut old mid 0 (to_bits 2 family) 2 → BitsPut mid new 2 (to_bits 3 axes) 5
    → BitsPut old new 0 (header_bits family axes) 5
put_header family axes p q = put_then (omega arith) p q

module _ {old mid new : List ℕ} {end : ℕ} (family axes : ℕ) (bases ps ms : List ℕ) (h : BitsPut old mid 0 (header_bits family axes) 5) where
  pub whole_sobol : family ≡ 2 → BitsPut mid new 5 (axes_bits (axes_of ps ms axes)) end → BitsPut old new 0 (plan_bits (plan_of family axes bases ps ms)) end
  unfolding plan_of plan_by plan_bits
  whole_sobol e p = rw (e, length_axes ps ms axes) (put_then (omega arith) (rw e at h) p)

  pub whole_halton : (family ≡ 2 → ⊥) → axes ≤ length bases → BitsPut mid new 5 (bases_bits (take axes bases)) end
      → BitsPut old new 0 (plan_bits (plan_of family axes bases ps ms)) end
  unfolding plan_of plan_by plan_bits
  whole_halton n k p = rw (ne_eqb family 2 n, length-take-le axes bases k) (put_then (omega arith) h p)
