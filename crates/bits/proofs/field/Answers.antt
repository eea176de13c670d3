-- After i turns the value is the field of the first i bits; a shift and an or add the next. Assumes nothing.
use mathlib.Core.Path.{◌≡◌, sym, ap, ap₂, ◌∙◌}
use Prim.Native.Nat.{ℕ, ◌+◌, ◌*◌, ◌%◌, ◌^◌, ◌<◌}
use native.Mathlib.Nat.{mod-eq_of_lt}
use native.Mathlib.Omega.{arith}
use lib.Bits.{bit_or, or_shifted}
use Rattle.bits.specs.Stream.{field_at}
use Rattle.bits.proofs.StreamLaws.{field_zero, field_next, field_small}
use Rattle.bits.proofs.field.Goals as goal

pub loop-i-init : goal.loop-i-init
loop-i-init c = sym (field_zero _ _)

gather : (v b : ℕ) → v < 4096 → b < 2 → bit_or (v * 2 % 2 ^ 64) b ≡ v * 2 + b
gather v b h k = ap (λ (x : ℕ). bit_or x b) (mod-eq_of_lt {n = v * 2} {m = 2 ^ 64} (omega arith)) ∙ or_shifted v 1 b k

pub loop-i-preserved : goal.loop-i-preserved
loop-i-preserved c =
    let l = c.loop-i in
    let a = c.args in
    gather l.value _ (omega (arith, field_small a.bytes.now a.at l.i (omega arith))) (omega arith)
    ∙ ap₂ (λ (v b : ℕ). v * 2 + b) l.invariant c.bit.ensures
    ∙ sym (field_next a.bytes.now a.at l.i (omega arith))

pub returns : goal.returns
returns c =
    let e : c.loop-i.i ≡ c.args.width = omega arith in
    let r = c.loop-i.invariant ∙ ap (field_at _ _) e in
    (r, rw r (field_small _ _ _ (omega arith)))
