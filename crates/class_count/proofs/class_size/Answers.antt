-- `class_count::class_size` meets its contract. Assumes nothing.
use mathlib.Core.Path.{ap}
use native.Mathlib.Omega.{arith}
use borrow.Author.Tests.{lt-ltb, le-ltb}
use Rattle.numbers.specs.Count.{bit}
use Rattle.class_count.proofs.class_size.Goals as goal

pub returns-then-i-more : goal.returns-then-i-more
returns-then-i-more c = let a = c.args in omega (arith, ap bit (lt-ltb a.i a.more c.if-i-more.true))

pub returns-else-i-more : goal.returns-else-i-more
returns-else-i-more c = let a = c.args in omega (arith, ap bit (le-ltb a.i a.more c.if-i-more.false))
