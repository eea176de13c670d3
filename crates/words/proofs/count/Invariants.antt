-- The words counted, with those that begin from the byte at hand on, are all. Assumes nothing.
use mathlib.Core.Path.{◌≡◌}
use mathlib.Core.Bool.{true}
use Prim.Native.Nat.{◌+◌, ◌≤◌}
use lib.ListN.{drop}
use Rattle.words.specs.Word.{words_in}
use Rattle.words.proofs.count.Given as goal

abbrev pub invariant-loop-b : goal.invariant-loop-b
invariant-loop-b l = (l.n ≤ l.b-index) × (l.n + words_in l.outside (drop l.b-index l.b-items) ≡ words_in true (drop l.from l.line))
