-- `binary::combine` meets its contract. The loop's invariant: x with what the digits left pick from the rest of the words is the whole. Assumes nothing.
use mathlib.Core.Path.{sym, ap, ◌∙◌}
use native.Mathlib.Omega.{arith}
use lib.Bits.{bit_xor, xor_zero_r}
use lib.ListN.{get_or}
use Rattle.binary.specs.Gf2.{combination}
use Rattle.binary.proofs.CombinationLaws.{combination_turn, combination_past, times_masked}
use Rattle.binary.proofs.combine.Goals as goal

pub loop-w-preserved : goal.loop-w-preserved
loop-w-preserved c =
    let a = c.args in
    let l = c.loop-w in
    combination_turn a.words.now l.w-index l.digits l.x _ (combination a.words.now a.g)
    (ap (bit_xor l.x) (times_masked l.digits (get_or a.words.now l.w-index 0)))
    l.invariant

pub returns : goal.returns
returns c =
    let a = c.args in
    let l = c.loop-w in
    sym (xor_zero_r l.x) ∙ ap (bit_xor l.x) (sym (combination_past a.words.now l.w-index l.digits (omega arith))) ∙ l.invariant
