-- After i turns the first i bytes are those of the first i pairs. Assumes nothing.
use mathlib.Core.Path.{◌≡◌}
use mathlib.Core.List.{◌++◌}
use lib.ListN.{drop}
use Rattle.numbers.specs.Listed.{listed}
use Rattle.words.specs.Hexadecimal.{hex_byte}
use Rattle.words.proofs.hex.Given as goal

abbrev pub invariant-loop-i : goal.invariant-loop-i
invariant-loop-i l = l.out ≡ listed (hex_byte l.word) l.i ++ drop l.i l.initial.out
