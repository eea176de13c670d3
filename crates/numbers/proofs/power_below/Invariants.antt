-- The loop's number is a power of b below 2^32, and so is the next one while the test holds. Assumes nothing.
use mathlib.Core.Path.{◌≡◌}
use Prim.Native.Nat.{ℕ, ◌-◌, ◌^◌, ◌<◌}
use Rattle.numbers.proofs.power_below.Given as goal

abbrev pub invariant-loop-p : goal.invariant-loop-p
invariant-loop-p l = ((k : ℕ) × (l.p ≡ l.b ^ k)) × (l.p < 2 ^ 32)

abbrev pub decreases-loop-p : goal.decreases-loop-p
decreases-loop-p l = 2 ^ 32 - l.p
