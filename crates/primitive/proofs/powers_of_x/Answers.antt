-- `primitive::powers_of_x` meets its contract. The loop's invariant: the powers are x to the exponents' digits passed. Assumes nothing.
use mathlib.Core.Path.{◌≡◌, sym, ap, ◌∙◌}
use Prim.Native.Nat.{◌^◌}
use native.Mathlib.Omega.{arith}
use native.Mathlib.Nat.{div-one}
use lib.ListN.{get_or, get_or-replicate}
use Rattle.numbers.proofs.ListedLaws.{begins_as}
use Rattle.binary.specs.Power.{power_of_x}
use Rattle.binary.proofs.PolynomialLaws.{no_digit}
use Rattle.primitive.specs.Powers.{power_at, power_from}
use Rattle.primitive.proofs.powers_of_x.Goals as goal

-- no digit is at place d or above
pub loop-place-init : goal.loop-place-init
unfolding power_from power_of_x
loop-place-init c =
    let a = c.args in
    record { at = λ i h. get_or-replicate 5 i 1 0 h ∙ sym (ap (power_of_x (2 ^ a.d) a.p) (no_digit a.d (get_or a.exponents i 0) (c.requires.1 i h))) }

pub returns : goal.returns
unfolding power_at power_from
returns c =
    let a = c.args in
    let l = c.loop-place in
    let none : l.place ≡ 0 = omega arith in
    begins_as (rw none at l.invariant) (power_at a.d a.p a.exponents) (λ i h. ap (power_of_x (2 ^ a.d) a.p) (div-one (get_or a.exponents i 0)))
