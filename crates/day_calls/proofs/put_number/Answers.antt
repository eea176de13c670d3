-- `day_calls::put_number` meets its contract. Assumes nothing.
use mathlib.Core.Path.{◌≡◌, refl, sym}
use Prim.Native.Nat.{ℕ, zero, suc}
use native.Mathlib.Omega.{arith}
use borrow.Author.Rules.{rules}
use Rattle.plan.specs.Order.{unless_number}
use Rattle.day_calls.proofs.put_number.Goals as goal

kept : {A : Type 0} (code : ℕ) (done old : A) → (code ≡ 0 → ⊥) → old ≡ unless_number code done old
kept zero done old f = absurd (f refl)
kept (suc k) done old f = refl

done : {A : Type 0} (code : ℕ) (new old : A) → code ≡ 0 → new ≡ unless_number code new old
done code new old z = rw z refl

pub returns-then-code-ne0 : goal.returns-then-code-ne0
returns-then-code-ne0 c = kept _ _ _ c.if-code-ne0.true

pub bounds-out-0 : goal.bounds-out-0
bounds-out-0 c = omega (arith, c.requires c.if-code-ne0.false)

pub returns : goal.returns
returns c = done _ _ _ c.if-code-ne0.false
