-- The digits that are left, after the value so far, have the word's value. Assumes nothing.
use mathlib.Core.Path.{◌≡◌}
use mathlib.Core.Bool.{true}
use Prim.Native.Nat.{◌^◌, ◌<◌}
use lib.ListN.{drop}
use Rattle.words.specs.Decimal.{all_digits, value_from}
use Rattle.words.proofs.decimal.Given as goal

abbrev pub invariant-loop-b : goal.invariant-loop-b
invariant-loop-b l = (l.value < 2 ^ 64) × (value_from 0 l.word ≡ value_from l.value (drop l.b-index l.word)) × (all_digits (drop l.b-index l.word) ≡ true)
