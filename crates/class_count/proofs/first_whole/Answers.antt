-- `class_count::first_whole` meets its contract. Assumes nothing.
use mathlib.Core.Path.{ap}
use native.Mathlib.Omega.{arith}
use borrow.Author.Tests.{lt-ltb, le-ltb}
use Rattle.numbers.specs.Count.{bit}
use Rattle.class_count.proofs.first_whole.Goals as goal

pub returns-then-left-gt0 : goal.returns-then-left-gt0
returns-then-left-gt0 c = let a = c.args in omega (arith, ap bit (lt-ltb 0 a.left c.if-left-gt0.true))

pub returns-else-left-gt0 : goal.returns-else-left-gt0
returns-else-left-gt0 c = let a = c.args in omega (arith, ap bit (le-ltb 0 a.left c.if-left-gt0.false))
