-- `day_calls::put_numbers` meets its contract. Assumes nothing.
use mathlib.Core.Path.{◌≡◌, refl, sym, ap, subst}
use mathlib.Core.List.{List}
use Prim.Native.Nat.{ℕ, zero, suc, ◌+◌}
use native.Mathlib.Omega.{arith}
use borrow.Author.Rules.{rules}
use Rattle.columns.specs.Rows.{Column}
use Rattle.columns.proofs.ColumnLaws.{column_none, column_to}
use Rattle.plan.specs.Order.{unless_number}
use Rattle.day_calls.proofs.put_numbers.Goals as goal

kept : (code k : ℕ) → (code ≡ 0 → ⊥) → 0 ≡ unless_number code k 0
kept zero k f = absurd (f refl)
kept (suc n) k f = refl

done : (code k : ℕ) → code ≡ 0 → k ≡ unless_number code k 0
done code k z = rw z refl

pub returns-then-code-ne0 : goal.returns-then-code-ne0
returns-then-code-ne0 c = column_to (column_none _ _ _ _ _) (kept _ _ c.if-code-ne0.true)

pub overflow_add-axes : goal.overflow_add-axes
overflow_add-axes c = omega (arith, (c.requires c.if-code-ne0.false).0)

pub number-requires : goal.number-requires
number-requires c = let p = c.requires c.if-code-ne0.false in (omega arith, p.1, p.2)

pub returns : goal.returns
returns c = column_to c.number.ensures (done _ _ c.if-code-ne0.false)
