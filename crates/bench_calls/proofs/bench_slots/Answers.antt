-- The exclusive or so far is that of the rounds so far.
use mathlib.Core.Path.{◌≡◌, ap}
use native.Mathlib.Omega.{arith}
use lib.Bits.{bit_xor}
use lib.ListN.{length}
use Rattle.bench_calls.specs.Rounds.{slot_round, slots_of}
use Rattle.bench_calls.proofs.RoundLaws.{rounds_none, rounds_next}
use Rattle.bench_calls.proofs.bench_slots.Goals as goal

pub loop-n-init : goal.loop-n-init
loop-n-init c = rounds_none _ _

pub loop-n-preserved : goal.loop-n-preserved
unfolding slot_round
loop-n-preserved c =
    let s = c.state_of-s.result in
    let a = c.args in
    rounds_next (slot_round a.daily s a.axis a.slots a.indexes.now) 0 c.loop-n.n-index c.loop-n.x _ c.loop-n.invariant
    (ap (bit_xor c.loop-n.x) c.slot_by-x.ensures)

pub returns : goal.returns
unfolding slots_of
returns c =
    let a = c.args in
    let done : c.loop-n.n-index ≡ length a.indexes.now = omega arith in
    rw (done, c.state_of-s.ensures) at c.loop-n.invariant
