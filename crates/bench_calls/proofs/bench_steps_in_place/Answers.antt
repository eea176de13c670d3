-- The rounds so far left the number, the state and the words.
use mathlib.Core.Path.{◌≡◌, ap}
use native.Mathlib.Omega.{arith}
use Rattle.state.specs.declared.Sampler.{Sampler}
use Rattle.bench_calls.specs.Rounds.{Turn, turn, step_round, steps_of}
use Rattle.bench_calls.proofs.RoundLaws.{rounds_none, rounds_next}
use Rattle.bench_calls.proofs.bench_steps_in_place.Goals as goal

pub loop-init : goal.loop-init
unfolding steps_of
loop-init c = rounds_none _ _

pub loop-preserved : goal.loop-preserved
unfolding steps_of step_round
loop-preserved c =
    rounds_next step_round (turn 0 c.opened-s.result c.args.out.now) c.loop.counter
    (turn c.loop.code c.loop.s c.loop.out) _ c.loop.invariant
    (λ j. turn (c.wake-r.ensures.0 j).code (c.wake-r.ensures.0 j).state (c.wake-r.ensures.1 j))

pub returns : goal.returns
returns c =
    let done : c.loop.counter ≡ c.args.rounds = omega arith in
    (rw (done, c.opened-s.ensures) at (ap (λ (t : Turn Sampler). t.answer) c.loop.invariant), rw (done, c.opened-s.ensures) at (ap (λ (t : Turn Sampler). t.words) c.loop.invariant))
