-- The measure is the number of steps and of axes, and then the functions' order: a class that splits has fewer steps, and the next axis is one axis
-- less. Assumes nothing.
use Prim.Native.Nat.{◌+◌, ◌-◌, ◌*◌, ◌≤◌}
use Rattle.strips.specs.Classes.{Split}
use Rattle.class_count.proofs.+count_class_cut_class_next_axis_split_class.Given as goal

abbrev pub decreases-count_class : goal.decreases-count_class
decreases-count_class l = 3 * (l.k + l.s)

abbrev pub decreases-cut_class : goal.decreases-cut_class
decreases-cut_class l = 3 * (l.k + l.s) + 1

abbrev pub decreases-next_axis : goal.decreases-next_axis
decreases-next_axis l = 3 * (l.k + l.s) + 2

abbrev pub decreases-split_class : goal.decreases-split_class
decreases-split_class l = 3 * (l.k + l.s)

abbrev pub invariant-split_class-loop-i : goal.invariant-split_class-loop-i
invariant-split_class-loop-i l = Split l.l l.rows l.s l.v l.u l.x l.r l.t l.m l.k l.e l.n l.i × (l.i ≤ l.end)

abbrev pub decreases-split_class-loop-i : goal.decreases-split_class-loop-i
decreases-split_class-loop-i l = l.end - l.i
