-- The rounds so far left the number and the words.
use mathlib.Core.Path.{◌≡◌}
use Rattle.bench_calls.specs.Rounds.{turn, rounds, jump_round}
use Rattle.bench_calls.proofs.bench_jumps.Given as goal

abbrev pub invariant-loop-n : goal.invariant-loop-n
invariant-loop-n l = turn l.code l.s l.out ≡ rounds (jump_round l.indexes) (turn 0 l.s l.initial.out) l.n-index
