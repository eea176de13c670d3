-- The rounds so far left the number, the state and the words.
use mathlib.Core.Path.{◌≡◌}
use Rattle.bench_calls.specs.Rounds.{turn, steps_of}
use Rattle.bench_calls.proofs.bench_steps.Given as goal

abbrev pub invariant-loop : goal.invariant-loop
invariant-loop l = turn l.code l.s l.out ≡ steps_of l.initial.s l.counter l.initial.out
