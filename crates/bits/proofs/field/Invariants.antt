-- After i turns the value is the field of the first i bits; a shift and an or add the next. Assumes nothing.
use mathlib.Core.Path.{◌≡◌}
use Rattle.bits.specs.Stream.{field_at}
use Rattle.bits.proofs.field.Given as goal

abbrev pub invariant-loop-i : goal.invariant-loop-i
invariant-loop-i l = l.value ≡ field_at l.bytes l.at l.i
