-- The exclusive or so far is that of the rounds so far.
use mathlib.Core.Path.{◌≡◌}
use Rattle.bench_calls.specs.Rounds.{slot_round, rounds}
use Rattle.bench_calls.proofs.bench_slots.Given as goal

abbrev pub invariant-loop-n : goal.invariant-loop-n
invariant-loop-n l = l.x ≡ rounds (slot_round l.daily l.s l.axis l.slots l.indexes) 0 l.n-index
