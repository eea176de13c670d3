-- The words up to the one at hand are read.
use Rattle.std.proofs.Common.{length}
use Rattle.console_text.proofs.ReadingLaws.{Reading}
use Rattle.console_text.proofs.reading.read_numbers.Given as goal

abbrev pub invariant-loop-i : goal.invariant-loop-i
invariant-loop-i l = Reading l.rest (length l.initial.out) l.at l.i l.out
