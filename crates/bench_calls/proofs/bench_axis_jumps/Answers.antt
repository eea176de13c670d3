-- The exclusive or so far is that of the rounds so far.
use borrow.Author.Rules.{rules}
use borrow.Author.Tests.{lt-ltb, le-ltb}
use mathlib.Core.Path.{◌≡◌, refl, ap, ◌∙◌}
use native.Mathlib.Omega.{arith}
use lib.Bits.{bit_xor}
use lib.ListN.{length}
use Rattle.halton.proofs.ImageLaws.{numerator_by_family}
use Rattle.bench_calls.specs.Rounds.{axis_round, axis_jumps_of}
use Rattle.bench_calls.proofs.RoundLaws.{rounds_none, rounds_next}
use Rattle.bench_calls.proofs.bench_axis_jumps.Goals as goal

pub returns-then-b-lt2 : goal.returns-then-b-lt2
unfolding axis_jumps_of
returns-then-b-lt2 c = rw (lt-ltb c.args.b 2 (omega arith)) refl

pub returns-then-b-gt256 : goal.returns-then-b-gt256
unfolding axis_jumps_of
returns-then-b-gt256 c =
    let b = c.args.b in
    rw (le-ltb b 2 (omega arith), lt-ltb 256 b (omega arith)) refl

pub loop-n-init : goal.loop-n-init
loop-n-init c = rounds_none _ _

pub jump-r-requires : goal.jump-r-requires
jump-r-requires c = (omega arith, omega arith, omega arith, search rules)

pub loop-n-preserved : goal.loop-n-preserved
unfolding axis_round
loop-n-preserved c =
    let a = c.args in
    rounds_next (axis_round a.family a.b a.indexes.now) 0 c.loop-n.n-index c.loop-n.x _ c.loop-n.invariant (ap (bit_xor c.loop-n.x) (c.jump-r.ensures ∙ numerator_by_family _ _ (omega arith) _))

pub returns : goal.returns
unfolding axis_jumps_of
returns c =
    let a = c.args in
    let done : c.loop-n.n-index ≡ length a.indexes.now = omega arith in
    rw (le-ltb a.b 2 (omega arith), le-ltb 256 a.b (omega arith), ← done) c.loop-n.invariant
