-- The first place is the first from the byte at hand on. Assumes nothing.
use Rattle.std.proofs.Common.{◌≡◌, ◌+◌, drop}
use Rattle.words.specs.Word.{leading}
use Rattle.axis_words.specs.Spelled.{is_not}
use Rattle.axis_words.proofs.part_end.Given as goal

abbrev pub invariant-loop-i : goal.invariant-loop-i
invariant-loop-i l = l.from + leading (is_not l.stop) (drop l.from l.text) ≡ l.i + leading (is_not l.stop) (drop l.i l.text)
