-- `sobol::scale` meets its contract. The loop's invariant: every v passed is its m times its power of two. A shift loses nothing, since the m's are
-- below their powers of two. Assumes nothing.
use mathlib.Core.Path.{◌≡◌}
use mathlib.Core.List.{List}
use Prim.Native.Nat.{ℕ, ◌-◌, ◌*◌, ◌^◌}
use lib.ListN.{get_or, length}
use Rattle.numbers.specs.Listed.{Begins}
use Rattle.sobol.proofs.scale.Given as goal

-- v_(k+1) by the m's
abbrev pub word : List ℕ → ℕ → ℕ
word m k = get_or m k 0 * 2 ^ (31 - k)

abbrev pub invariant-loop-i : goal.invariant-loop-i
invariant-loop-i l = (length l.v ≡ 32) × Begins (word l.m) l.i l.v
