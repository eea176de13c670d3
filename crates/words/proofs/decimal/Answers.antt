-- The digits that are left, after the value so far, have the word's value. Assumes nothing.
use mathlib.Core.Path.{◌≡◌, sym, ◌∙◌}
use mathlib.Core.Bool.{true}
use Prim.Native.Nat.{◌+◌, ◌*◌, ◌-◌, ◌≤◌}
use native.Mathlib.Omega.{arith}
use lib.ListN.{drop, get_or}
use Rattle.words.specs.Decimal.{all_digits}
use Rattle.words.proofs.DecimalLaws.{digit_here, value_next, value_end, value_low, number_none, number_other, number_value, number_large}
use Rattle.words.proofs.decimal.Goals as goal
use Rattle.words.proofs.decimal.Goals.{In-loop-b}

here : (c : In-loop-b)
    → let w = c.args.word.now in
    let i = c.loop-b.b-index in (48 ≤ get_or w i 0) × (get_or w i 0 ≤ 57) × (all_digits (drop (i + 1) w) ≡ true)
here c =
    digit_here c.args.word.now c.loop-b.b-index (omega arith) c.loop-b.invariant.2

pub returns-then-word-eq0 : goal.returns-then-word-eq0
returns-then-word-eq0 c =
    let w = c.args.word.now in
    sym (number_none w (omega arith))

pub returns-then-not-all_digits : goal.returns-then-not-all_digits
returns-then-not-all_digits c =
    let w = c.args.word.now in
    sym (number_other w (sym c.all_digits.ensures ∙ c.if-not-all_digits.true))

pub overflow_sub-digit : goal.overflow_sub-digit
overflow_sub-digit c = omega (arith, here (goal.at.overflow_sub-digit c).In-loop-b)

pub returns-then-digit-value : goal.returns-then-digit-value
returns-then-digit-value c =
    let w = c.args.word.now in
    let i = c.loop-b.b-index in
    number_large w (omega arith) (sym c.all_digits.ensures ∙ c.if-not-all_digits.false)
    (omega (arith, c.loop-b.invariant.1, value_next w i (omega arith) c.loop-b.value, value_low (c.loop-b.value * 10 + (get_or w i 0 - 48)) (drop (i + 1) w)))

pub loop-b-preserved : goal.loop-b-preserved
loop-b-preserved c =
    let w = c.args.word.now in
    let i = c.loop-b.b-index in
    (omega (arith, here (goal.at.loop-b-preserved c).In-loop-b), c.loop-b.invariant.1 ∙ value_next w i (omega arith) c.loop-b.value, (here (goal.at.loop-b-preserved c).In-loop-b).2)

pub returns : goal.returns
returns c =
    let w = c.args.word.now in
    number_value w (omega arith) (sym c.all_digits.ensures ∙ c.if-not-all_digits.false) c.loop-b.value (omega arith)
    (c.loop-b.invariant.1 ∙ value_end c.loop-b.value w c.loop-b.b-index (omega arith))
