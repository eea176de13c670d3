-- `points::advance` meets its contract. The loop's invariant: the first i words are the next index's numerators, and the others are still
-- those of the index before. Assumes nothing.
use Prim.Native.Nat.{◌+◌}
use lib.ListN.{get_or}
use Rattle.numbers.proofs.ListedLaws.{Over}
use Rattle.points.specs.Arrays.{numerator_at}
use Rattle.points.proofs.advance.Given as goal

abbrev pub invariant-loop-i : goal.invariant-loop-i
invariant-loop-i l = Over (λ k. numerator_at l.p.family l.p.bases.now l.p.directions.now (get_or l.starts k 0 + l.t + 1) k) l.initial.y l.y l.i
