-- S after a round is what the call answers.
use mathlib.Core.Path.{◌≡◌, refl, ap}
use native.Mathlib.Numerals.{add-one}
use native.Mathlib.Omega.{arith}
use Rattle.window_count.specs.declared.Counted.{Counted}
use Rattle.bench_calls.specs.Rounds.{counts_of}
use Rattle.bench_calls.proofs.bench_counts.Goals as goal

pub loop-init : goal.loop-init
unfolding counts_of
loop-init c = refl

pub loop-preserved : goal.loop-preserved
unfolding counts_of
loop-preserved c = rw add-one (ap (λ (r : Counted). r.inside) c.counted-r.ensures)

pub returns : goal.returns
returns c =
    let done : c.loop.counter ≡ c.args.rounds = omega arith in
    rw (done, c.opened-s.ensures) at c.loop.invariant
