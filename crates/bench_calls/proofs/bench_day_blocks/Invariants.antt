-- The rounds so far left the answer and the words.
use mathlib.Core.Path.{◌≡◌}
use Rattle.bench_calls.specs.Rounds.{turn, day_blocks_of}
use Rattle.bench_calls.proofs.bench_day_blocks.Given as goal

abbrev pub invariant-loop : goal.invariant-loop
invariant-loop l = turn l.points l.d l.out ≡ day_blocks_of l.d l.counter l.initial.out
