-- A Halton axis over any map of the digits to digits: its numerators are below its denominator. Assumes nothing.
use Prim.Native.Nat.{ℕ, ◌<◌}
use Rattle.numbers.specs.Depth.{depth, denominator}
use Rattle.numbers.proofs.NumeratorLaws.{numerator_lt}
use Rattle.halton.specs.Axis.{numerator}
use Rattle.halton.specs.Images.{DigitMap}

pub numerator_below : {b : ℕ} {σ : ℕ → ℕ} → DigitMap b σ → 0 < b → (n : ℕ) → numerator σ b n < denominator b
unfolding numerator denominator
numerator_below {b} {σ} a pos n = numerator_lt σ b a.below pos (depth b) n
