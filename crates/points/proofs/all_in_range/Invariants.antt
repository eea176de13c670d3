-- `points::all_in_range` meets its contract: the first i starts are in range. Assumes nothing.
use mathlib.Core.Path.{◌≡◌}
use mathlib.Core.Bool.{true}
use lib.ListN.{get_or}
use Rattle.numbers.specs.Count.{each}
use Rattle.points.specs.Run.{start_in_range}
use Rattle.points.proofs.all_in_range.Given as goal

abbrev pub invariant-loop-n : goal.invariant-loop-n
invariant-loop-n l = each (λ k. start_in_range (get_or l.starts k 0) l.count) l.n-index ≡ true
