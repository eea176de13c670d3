-- `points::point` meets its contract. The loop's invariant: the first i words are the numerators of the first i axes, and zeros follow.
-- Assumes nothing.
use mathlib.Core.Path.{◌≡◌}
use Prim.Native.Nat.{◌+◌}
use lib.ListN.{length, get_or}
use Rattle.numbers.specs.Listed.{listed, padded}
use Rattle.points.specs.Arrays.{numerator_at}
use Rattle.points.proofs.point.Given as goal

abbrev pub invariant-loop-i : goal.invariant-loop-i
invariant-loop-i l = (length l.x ≡ 6) × (l.x ≡ padded 6 (listed (λ k. numerator_at l.p.family l.p.bases.now l.p.directions.now (get_or l.starts k 0 + l.t) k) l.i))
