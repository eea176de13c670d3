-- The first place is the first from the byte at hand on. Assumes nothing.
use mathlib.Core.Path.{◌≡◌}
use Prim.Native.Nat.{◌+◌}
use lib.ListN.{drop}
use Rattle.words.specs.Word.{leading}
use Rattle.words.specs.Hexadecimal.{is_hex}
use Rattle.words.proofs.not_hex.Given as goal

abbrev pub invariant-loop-i : goal.invariant-loop-i
invariant-loop-i l = leading is_hex l.word ≡ l.i + leading is_hex (drop l.i l.word)
