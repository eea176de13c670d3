-- Fewer bits than the field has are left exactly where there are fewer bytes than its end asks for. Assumes nothing.
use borrow.Author.Tests.{ltb-true, ltb-false, lt-ltb, le-ltb}
use mathlib.Core.Path.{◌≡◌, refl, sym}
use mathlib.Core.Bool.{Bool, true, false}
use native.Mathlib.Omega.{arith}
use lib.ListN.{length, drop, length-drop}
use Rattle.bits.specs.Stream.{bits_of}
use Rattle.bits.proofs.StreamLaws.{length_bits}
use Rattle.bits.proofs.is_short.Goals as goal

either_way : (s t : Bool) → (s ≡ true → t ≡ true) → (s ≡ false → t ≡ false) → s ≡ t
either_way true t f g = sym (f refl)
either_way false t f g = sym (g refl)

pub returns : goal.returns
returns c =
    let bits = bits_of c.args.bytes.now in
    let left = length-drop c.args.at bits in
    let all = length_bits c.args.bytes.now in
    let rest = length (drop c.args.at bits) in
    either_way _ _ (λ h. lt-ltb rest c.args.width (omega (arith, ltb-true))) (λ h. le-ltb rest c.args.width (omega (arith, ltb-false)))
