-- The rounds so far left the number and the words.
use mathlib.Core.Path.{◌≡◌, ap}
use native.Mathlib.Omega.{arith}
use lib.ListN.{length}
use Rattle.state.specs.declared.Sampler.{Sampler}
use Rattle.bench_calls.specs.Rounds.{Turn, turn, jump_round, jumps_of}
use Rattle.bench_calls.proofs.RoundLaws.{rounds_none, rounds_next}
use Rattle.bench_calls.proofs.bench_jumps.Goals as goal

pub loop-n-init : goal.loop-n-init
loop-n-init c = rounds_none _ _

pub loop-n-preserved : goal.loop-n-preserved
unfolding jump_round
loop-n-preserved c =
    let s = c.state_of-s.result in
    let a = c.args in
    rounds_next (jump_round a.indexes.now) (turn 0 s a.out.now) c.loop-n.n-index (turn c.loop-n.code s c.loop-n.out) _ c.loop-n.invariant
    (λ j. turn (c.jump-j.ensures.0 j).code s (c.jump-j.ensures.1 j))

pub returns : goal.returns
unfolding jumps_of
returns c =
    let done : c.loop-n.n-index ≡ length c.args.indexes.now = omega arith in
    (rw (done, c.state_of-s.ensures) at (ap (λ (t : Turn Sampler). t.answer) c.loop-n.invariant), rw (done, c.state_of-s.ensures) at (ap (λ (t : Turn Sampler). t.words) c.loop-n.invariant))
