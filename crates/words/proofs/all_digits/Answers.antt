-- What is left of the word decides as the whole does. Assumes nothing.
use mathlib.Core.Path.{sym, ◌∙◌}
use native.Mathlib.Omega.{arith}
use Rattle.words.proofs.DecimalLaws.{byte_low, byte_high, byte_digit, digits_end}
use Rattle.words.proofs.all_digits.Goals as goal

pub returns-then-b-lt48 : goal.returns-then-b-lt48
returns-then-b-lt48 c =
    let w = c.args.word.now in
    sym (c.loop-b.invariant ∙ byte_low w c.loop-b.b-index (omega arith) (omega arith))

pub returns-then-b-gt57 : goal.returns-then-b-gt57
returns-then-b-gt57 c =
    let w = c.args.word.now in
    sym (c.loop-b.invariant ∙ byte_high w c.loop-b.b-index (omega arith) (omega arith))

pub loop-b-preserved : goal.loop-b-preserved
loop-b-preserved c =
    let w = c.args.word.now in
    c.loop-b.invariant ∙ byte_digit w c.loop-b.b-index (omega arith) (omega arith) (omega arith)

pub returns : goal.returns
returns c =
    let w = c.args.word.now in
    sym (c.loop-b.invariant ∙ digits_end w c.loop-b.b-index (omega arith))
