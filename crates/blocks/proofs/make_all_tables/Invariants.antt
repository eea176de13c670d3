-- `blocks::make_all_tables` meets its contract: the tables of the axes up to i are made. Assumes nothing.
use mathlib.Core.Path.{◌≡◌}
use lib.ListN.{length}
use Rattle.blocks.specs.Tables.{AllMade}
use Rattle.blocks.proofs.make_all_tables.Given as goal

abbrev pub invariant-loop-i : goal.invariant-loop-i
invariant-loop-i l = (length l.sizes ≡ 6) × AllMade l.family l.i l.bases l.sizes l.images l.tables
