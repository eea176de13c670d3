-- `class_count::below_rest` meets its contract: what is left of the index lies below what is left of the cut where the whole does. Assumes
-- nothing.
use mathlib.Core.Path.{◌≡◌}
use Prim.Native.Nat.{◌*◌, ◌^◌, ◌<◌, ◌≤◌}
use Rattle.strips.specs.Classes.{below_rest, image_from}
use Rattle.class_count.proofs.below_rest.Given as goal

abbrev pub invariant-loop-n : goal.invariant-loop-n
invariant-loop-n l = (l.v ≤ 2 ^ 24) × (l.n < 2 ^ 32) × (below_rest (image_from l.l (256 * l.s)) l.b l.q l.u l.x ≡ below_rest (image_from l.l (256 * l.s)) l.b l.q l.v l.n)

abbrev pub decreases-loop-n : goal.decreases-loop-n
decreases-loop-n l = l.n
