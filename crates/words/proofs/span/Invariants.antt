-- The span ends where it ends from the byte at hand on. Assumes nothing.
use mathlib.Core.Path.{◌≡◌}
use Rattle.words.specs.Word.{span_end}
use Rattle.words.proofs.span.Given as goal

abbrev pub invariant-loop-i : goal.invariant-loop-i
invariant-loop-i l = span_end l.line l.from l.blank ≡ span_end l.line l.i l.blank
