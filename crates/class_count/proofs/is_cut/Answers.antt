-- `class_count::is_cut` meets its contract. Assumes nothing.
use mathlib.Core.Bool.{true≢false}
use native.Mathlib.Omega.{arith}
use borrow.Author.Tests.{eqb-false}
use Rattle.class_count.proofs.is_cut.Goals as goal

pub returns-then-d-cut : goal.returns-then-d-cut
returns-then-d-cut c e = absurd (true≢false e)

pub returns-then-left-eq0 : goal.returns-then-left-eq0
returns-then-left-eq0 c e = (c.if-d-cut.false, λ l. absurd (omega arith))

pub returns : goal.returns
returns c e = (c.if-d-cut.false, λ l. eqb-false _ _ e)
