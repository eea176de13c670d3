-- The first place is the first from the byte at hand on. Assumes nothing.
use Rattle.std.proofs.Common.{arith}
use Rattle.words.proofs.WordLaws.{leading_more, leading_stop, leading_end}
use Rattle.axis_words.specs.Spelled.{is_not}
use Rattle.axis_words.proofs.PartLaws.{is_stop, is_other}
use Rattle.axis_words.proofs.part_end.Goals as goal

pub loop-i-init : goal.loop-i-init
loop-i-init c = omega arith

pub returns-then-text-i : goal.returns-then-text-i
returns-then-text-i c =
    let a = c.args in
    (omega (arith, c.loop-i.invariant, leading_stop a.text.now c.loop-i.i (omega arith) (is_not a.stop) (is_stop a.stop _ (omega arith))), omega arith)

pub loop-i-preserved : goal.loop-i-preserved
loop-i-preserved c =
    let a = c.args in
    omega (arith, c.loop-i.invariant, leading_more a.text.now c.loop-i.i (omega arith) (is_not a.stop) (is_other a.stop _ (λ e. omega (arith, e))))

pub returns : goal.returns
returns c =
    let a = c.args in
    (omega (arith, c.loop-i.invariant, leading_end a.text.now c.loop-i.i (omega arith) (is_not a.stop)), omega arith)
