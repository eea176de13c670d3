-- `class_count::next_digit` meets its contract. Assumes nothing.
use mathlib.Core.Path.{sym, ◌∙◌}
use native.Mathlib.Nat.{mod-eq_of_lt, mod-eq-sub-mod}
use native.Mathlib.Omega.{arith}
use Rattle.class_count.proofs.next_digit.Goals as goal

pub returns-then-z-b : goal.returns-then-z-b
returns-then-z-b c = sym (mod-eq_of_lt c.if-z-b.true)

pub returns-else-z-b : goal.returns-else-z-b
returns-else-z-b c = sym (mod-eq-sub-mod c.if-z-b.false ∙ mod-eq_of_lt (omega arith))
