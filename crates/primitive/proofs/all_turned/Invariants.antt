-- `primitive::all_turned` meets its contract. The loop's invariant: the powers passed have one digit more, the others are as they were. Assumes nothing.
use mathlib.Core.Path.{◌≡◌}
use lib.ListN.{length}
use Rattle.numbers.proofs.ListedLaws.{Over}
use Rattle.primitive.specs.Powers.{power_from}
use Rattle.primitive.proofs.all_turned.Given as goal

abbrev pub invariant-loop-i : goal.invariant-loop-i
invariant-loop-i l = (length l.initial.next ≡ 5) × Over (power_from l.d l.p l.exponents l.place) l.initial.next l.next l.i
