-- `day_count::day_bound` meets its contract. Assumes nothing.
use native.Mathlib.Omega.{arith}
use borrow.Author.Rules.{rules}
use borrow.Author.Tests.{eq-eqb, ne_eqb}
use Rattle.day_count.proofs.day_bound.Goals as goal

pub returns-then-family-eq2 : goal.returns-then-family-eq2
returns-then-family-eq2 c = rw (eq-eqb c.args.family 2 (omega arith))

pub returns : goal.returns
returns c = rw (ne_eqb c.args.family 2 (λ e. omega arith)) (omega arith)
