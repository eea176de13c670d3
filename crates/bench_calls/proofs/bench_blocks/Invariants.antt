-- The rounds so far left the answer and the words.
use mathlib.Core.Path.{◌≡◌}
use Rattle.bench_calls.specs.Rounds.{turn, blocks_of}
use Rattle.bench_calls.proofs.bench_blocks.Given as goal

abbrev pub invariant-loop : goal.invariant-loop
invariant-loop l = turn l.points l.s l.out ≡ blocks_of l.s l.counter l.initial.out
