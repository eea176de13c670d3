-- `points::same_starts` meets its contract: the first i starts are the first one. Assumes nothing.
use mathlib.Core.Path.{◌≡◌}
use mathlib.Core.Bool.{true}
use lib.Dec.{eqb}
use lib.ListN.{get_or}
use Rattle.numbers.specs.Count.{each}
use Rattle.points.proofs.same_starts.Given as goal

abbrev pub invariant-loop-n : goal.invariant-loop-n
invariant-loop-n l = each (λ k. eqb (get_or l.starts k 0) (get_or l.starts 0 0)) l.n-index ≡ true
