-- S after a round is what the call answers.
use mathlib.Core.Path.{◌≡◌}
use Rattle.window_count.specs.Call.{count_spec}
use Rattle.bench_calls.specs.Rounds.{counts_of}
use Rattle.bench_calls.proofs.bench_counts.Given as goal

abbrev pub invariant-loop : goal.invariant-loop
invariant-loop l = l.inside ≡ counts_of (count_spec l.s l.window) l.counter
