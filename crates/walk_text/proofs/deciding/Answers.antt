-- Fewer than 72 bytes are their own first 72. Assumes nothing.
use mathlib.Core.Path.{◌∙◌, sym}
use native.Mathlib.Omega.{arith}
use lib.Seq.{take-length, take_all}
use Rattle.walk_text.proofs.deciding.Goals as goal

pub returns-then-input-lt72 : goal.returns-then-input-lt72
returns-then-input-lt72 c =
    let input = c.args.input.now in
    (omega arith, take-length input ∙ sym (take_all 72 input (omega arith)))
