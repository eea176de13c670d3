-- The exclusive or so far is that of the rounds so far.
use mathlib.Core.Path.{◌≡◌}
use Rattle.bench_calls.specs.Rounds.{axis_round, rounds}
use Rattle.bench_calls.proofs.bench_axis_jumps.Given as goal

abbrev pub invariant-loop-n : goal.invariant-loop-n
invariant-loop-n l = l.x ≡ rounds (axis_round l.family l.b l.indexes) 0 l.n-index
