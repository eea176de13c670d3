-- The rounds so far left the answer and the words.
use mathlib.Core.Path.{◌≡◌, ap}
use native.Mathlib.Omega.{arith}
use Rattle.state.specs.declared.Sampler.{Sampler}
use Rattle.bench_calls.specs.Rounds.{Turn, turn, block_round, blocks_of}
use Rattle.bench_calls.proofs.RoundLaws.{rounds_none, rounds_next}
use Rattle.bench_calls.proofs.bench_blocks.Goals as goal

pub loop-init : goal.loop-init
unfolding blocks_of
loop-init c = rounds_none _ _

pub loop-preserved : goal.loop-preserved
unfolding blocks_of block_round
loop-preserved c =
    let s = c.opened-s.result in
    rounds_next block_round (turn 0 s c.args.out.now) c.loop.counter (turn c.loop.points s c.loop.out) _ c.loop.invariant
    (λ j. turn (c.block-b.ensures.0 j).points s (c.block-b.ensures.1 j))

pub returns : goal.returns
returns c =
    let done : c.loop.counter ≡ c.args.rounds = omega arith in
    (rw (done, c.opened-s.ensures) at (ap (λ (t : Turn Sampler). t.answer) c.loop.invariant), rw (done, c.opened-s.ensures) at (ap (λ (t : Turn Sampler). t.words) c.loop.invariant))
