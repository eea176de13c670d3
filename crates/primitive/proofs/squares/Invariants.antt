-- `primitive::squares` meets its contract. The loop's invariant: the words passed are squares, and x is the next. Assumes nothing.
use mathlib.Core.Path.{◌≡◌}
use Prim.Native.Nat.{ℕ, ◌*◌, ◌^◌}
use Rattle.binary.specs.Power.{power_of_x}
use Rattle.numbers.specs.Listed.{Begins}
use Rattle.primitive.proofs.squares.Given as goal

abbrev pub square_at : ℕ → ℕ → ℕ → ℕ
square_at d p k = power_of_x (2 ^ d) p (k * 2)

abbrev pub invariant-loop-w : goal.invariant-loop-w
invariant-loop-w l = (l.x ≡ square_at l.d l.p l.w-index) × Begins (square_at l.d l.p) l.w-index l.w-items
