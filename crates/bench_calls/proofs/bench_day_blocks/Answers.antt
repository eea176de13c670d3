-- The rounds so far left the answer and the words.
use mathlib.Core.Path.{◌≡◌, ap}
use native.Mathlib.Omega.{arith}
use Rattle.day_set.specs.declared.DaySet.{DaySet}
use Rattle.bench_calls.specs.Rounds.{Turn, turn, day_block_round, day_blocks_of}
use Rattle.bench_calls.proofs.RoundLaws.{rounds_none, rounds_next}
use Rattle.bench_calls.proofs.bench_day_blocks.Goals as goal

pub loop-init : goal.loop-init
unfolding day_blocks_of
loop-init c = rounds_none _ _

pub loop-preserved : goal.loop-preserved
unfolding day_blocks_of day_block_round
loop-preserved c =
    let d = c.made-d.result in
    rounds_next day_block_round (turn 0 d c.args.out.now) c.loop.counter (turn c.loop.points d c.loop.out) _ c.loop.invariant
    (λ j. turn (c.day_block-b.ensures.0 j).points d (c.day_block-b.ensures.1 j))

pub returns : goal.returns
returns c =
    let done : c.loop.counter ≡ c.args.rounds = omega arith in
    (rw (done, c.made-d.ensures) at (ap (λ (t : Turn DaySet). t.answer) c.loop.invariant), rw (done, c.made-d.ensures) at (ap (λ (t : Turn DaySet). t.words) c.loop.invariant))
