-- `points::indexes` meets its contract: the first i words are the indexes of the first i axes, and zeros follow. Assumes nothing.
use mathlib.Core.Path.{◌≡◌}
use Prim.Native.Nat.{◌+◌}
use lib.ListN.{length, get_or}
use Rattle.numbers.specs.Listed.{listed, padded}
use Rattle.points.proofs.indexes.Given as goal

abbrev pub invariant-loop-i : goal.invariant-loop-i
invariant-loop-i l = (length l.ns ≡ 6) × (l.ns ≡ padded 6 (listed (λ k. get_or l.starts k 0 + l.t) l.i))
