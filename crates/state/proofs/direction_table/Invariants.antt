-- `state::direction_table` meets its contract. The loop's invariant: the table holds the direction numbers of the first i axes, and zeros
-- follow. Assumes nothing.
use mathlib.Core.Path.{◌≡◌}
use lib.ListN.{length}
use Rattle.state.proofs.TableLaws.{table_at}
use Rattle.state.proofs.direction_table.Given as goal

abbrev pub invariant-loop-i : goal.invariant-loop-i
invariant-loop-i l = (length l.table ≡ 192) × (l.table ≡ table_at l.polynomials l.ms l.i)
