-- The span ends where it ends from the byte at hand on. Assumes nothing.
use borrow.Author.Tests.{not-true, not-false}
use mathlib.Core.Path.{◌≡◌}
use mathlib.Core.Bool.{true, false, beq}
use native.Mathlib.Omega.{arith}
use lib.ListN.{get_or}
use Rattle.words.specs.Word.{blank_is}
use Rattle.words.proofs.WordLaws.{leading_more, leading_stop, leading_end}
use Rattle.words.proofs.span.Goals as goal

pub returns-then-is_blank-blank : goal.returns-then-is_blank-blank
unfolding blank_is
returns-then-is_blank-blank c =
    let a = c.args in
    let other : blank_is a.blank (get_or a.line.now c.loop-i.i 0) ≡ false = rw c.is_blank.ensures at (not-true (beq c.is_blank.result a.blank) c.if-is_blank-blank.true) in
    (omega (arith, c.loop-i.invariant, leading_stop a.line.now c.loop-i.i (omega arith) (blank_is a.blank) other), omega arith)

pub loop-i-preserved : goal.loop-i-preserved
unfolding blank_is
loop-i-preserved c =
    let a = c.args in
    let same : blank_is a.blank (get_or a.line.now c.loop-i.i 0) ≡ true = rw c.is_blank.ensures at (not-false (beq c.is_blank.result a.blank) c.if-is_blank-blank.false) in
    omega (arith, c.loop-i.invariant, leading_more a.line.now c.loop-i.i (omega arith) (blank_is a.blank) same)

pub returns : goal.returns
returns c =
    let a = c.args in
    (omega (arith, c.loop-i.invariant, leading_end a.line.now c.loop-i.i (omega arith) (blank_is a.blank)), omega arith)
