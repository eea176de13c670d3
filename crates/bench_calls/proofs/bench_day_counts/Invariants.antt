-- S after a round is what the call answers.
use mathlib.Core.Path.{◌≡◌}
use Rattle.day_count.specs.Count.{day_count_spec}
use Rattle.bench_calls.specs.Rounds.{counts_of}
use Rattle.bench_calls.proofs.bench_day_counts.Given as goal

abbrev pub invariant-loop : goal.invariant-loop
invariant-loop l = l.inside ≡ counts_of (day_count_spec l.d l.window) l.counter
