-- `window::is_window` meets its contract: the cuts of the first i axes are in range. Assumes nothing.
use mathlib.Core.Path.{◌≡◌}
use mathlib.Core.Bool.{true}
use Rattle.numbers.specs.Count.{each}
use Rattle.window.specs.Counting.{is_cut_at}
use Rattle.window.proofs.is_window.Given as goal

abbrev pub invariant-loop-i : goal.invariant-loop-i
invariant-loop-i l = each (is_cut_at l.w) l.i ≡ true
