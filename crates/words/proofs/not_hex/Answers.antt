-- The first place is the first from the byte at hand on. Assumes nothing.
use borrow.Author.Tests.{lt-ltb, le-ltb}
use mathlib.Core.Path.{◌≡◌}
use mathlib.Core.Bool.{true, false}
use native.Mathlib.Omega.{arith}
use lib.ListN.{get_or}
use Rattle.words.specs.Hexadecimal.{hex_value, is_hex}
use Rattle.words.proofs.WordLaws.{leading_more, leading_stop, leading_end}
use Rattle.words.proofs.not_hex.Goals as goal

pub returns-then-hex_digit-gt15 : goal.returns-then-hex_digit-gt15
unfolding is_hex
returns-then-hex_digit-gt15 c =
    let w = c.args.word.now in
    let other : is_hex (get_or w c.loop-i.i 0) ≡ false = le-ltb (hex_value (get_or w c.loop-i.i 0)) 16 (omega (arith, c.hex_digit.ensures)) in
    omega (arith, c.loop-i.invariant, leading_stop w c.loop-i.i (omega arith) is_hex other)

pub loop-i-preserved : goal.loop-i-preserved
unfolding is_hex
loop-i-preserved c =
    let w = c.args.word.now in
    let same : is_hex (get_or w c.loop-i.i 0) ≡ true = lt-ltb (hex_value (get_or w c.loop-i.i 0)) 16 (omega (arith, c.hex_digit.ensures)) in
    omega (arith, c.loop-i.invariant, leading_more w c.loop-i.i (omega arith) is_hex same)

pub returns : goal.returns
returns c =
    omega (arith, c.loop-i.invariant, leading_end c.args.word.now c.loop-i.i (omega arith) is_hex)
