-- `primitive::is_primitive` meets its contract. The loop's invariant: x to none of the quotients passed is 1. Assumes nothing.
use mathlib.Core.Path.{◌≡◌}
use Prim.Native.Nat.{ℕ, ◌^◌, ◌<◌}
use lib.ListN.{get_or}
use Rattle.binary.specs.Power.{power_of_x}
use Rattle.primitive.proofs.is_primitive.Given as goal

abbrev pub Passes : ℕ → ℕ → ℕ → Type 0
Passes d p e = 0 < e → power_of_x (2 ^ d) p e ≡ 1 → ⊥

abbrev pub invariant-loop-i : goal.invariant-loop-i
invariant-loop-i l = (k : ℕ) → k < l.i → Passes l.d l.p (get_or l.q k 0)
