-- Each test decides one part of the rule, and the last the rest. Assumes nothing.
use native.Mathlib.Omega.{arith}
use Rattle.fitting.proofs.AnswerLaws.{no}
use Rattle.fitting.proofs.WordLaws.{given_is, not_odd}
use borrow.Author.Rules.{rules}
use Rattle.axis_test.proofs.is_given.Goals as goal

pub returns-then-m-ne1 : goal.returns-then-m-ne1
returns-then-m-ne1 c = no (not_odd (λ e. omega (arith, e)))

pub returns-then-w-gt4294967295 : goal.returns-then-w-gt4294967295
returns-then-w-gt4294967295 c = no (λ f. omega (arith, f.low))

pub returns : goal.returns
returns c = let a = c.args in given_is a.j a.w (omega arith) (omega arith)
