-- After i turns the first i bits of the field are written over the stream. Assumes nothing.
use mathlib.Core.Path.{refl, sym, ap, ◌∙◌}
use Prim.Native.Nat.{ℕ, ◌/◌, ◌%◌, ◌^◌}
use native.Mathlib.Omega.{arith}
use Rattle.bits.specs.Stream.{bits_of, to_bits}
use Rattle.bits.proofs.StreamLaws.{length_bits, length_to_bits, get_or_to_bits}
use Rattle.bits.proofs.OverwriteLaws.{copied_next, copied_all}
use Rattle.bits.proofs.ByteLaws.{lowest_bit}
use Rattle.bits.proofs.put.Goals as goal

pub loop-i-preserved : goal.loop-i-preserved
loop-i-preserved c =
    let a = c.args in
    rw c.put_bit.ensures
    (copied_next (bits_of a.out.now) a.at (to_bits a.width a.v) c.loop-i.i _ _
    (omega (arith, length_to_bits a.width a.v))
    (omega (arith, length_bits a.out.now))
    refl
    (lowest_bit _ ∙ sym (get_or_to_bits a.width a.v c.loop-i.i (omega arith) ∙ ap (λ (n : ℕ). a.v / 2 ^ n % 2) (omega arith)))
    c.loop-i.invariant)

pub returns : goal.returns
returns c =
    let a = c.args in
    copied_all _ _ _ c.loop-i.i (omega (arith, length_to_bits a.width a.v)) c.loop-i.invariant
