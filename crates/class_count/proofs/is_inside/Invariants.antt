-- `class_count::is_inside` meets its contract: the step is inside on all axes where it is on those that are left. Assumes nothing.
use mathlib.Core.Path.{◌≡◌}
use Rattle.strips.specs.Ends.{inside_ends}
use Rattle.strips.specs.Classes.{table_axes}
use Rattle.class_count.proofs.is_inside.Given as goal

abbrev pub invariant-loop-a : goal.invariant-loop-a
invariant-loop-a l = inside_ends (table_axes l.l l.rows) l.s l.o ≡ inside_ends (table_axes l.l l.rows) l.a l.o
