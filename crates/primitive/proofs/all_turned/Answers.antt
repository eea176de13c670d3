-- `primitive::all_turned` meets its contract. The loop's invariant: the powers passed have one digit more, the others are as they were. Assumes nothing.
use mathlib.Core.Path.{◌∙◌}
use native.Mathlib.Omega.{arith}
use Rattle.numbers.proofs.ListedLaws.{over_store}
use Rattle.primitive.specs.Powers.{power_from}
use Rattle.primitive.proofs.all_turned.Goals as goal

pub turned-r-requires : goal.turned-r-requires
unfolding power_from
turned-r-requires c =
    let l = c.loop-i in
    (c.requires.0, c.requires.1, l.invariant.1.rest l.i (omega arith) ∙ c.requires.2.at l.i (omega (arith, c.loop-i-test.true)))

pub loop-i-preserved : goal.loop-i-preserved
unfolding power_from
loop-i-preserved c =
    let l = c.loop-i in
    (l.invariant.0, over_store _ _ l.next l.i _ l.invariant.1 (omega arith) c.turned-r.ensures)
