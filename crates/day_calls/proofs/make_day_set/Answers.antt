-- `day_calls::make_day_set` meets its contract: it is an opening from 0 on each axis. Assumes nothing.
use mathlib.Core.Path.{◌≡◌, refl, sym, ap, ◌∙◌}
use mathlib.Core.Bool.{true}
use Rattle.std.specs.Prelude.{ℕ, zero, suc, min}
use native.Mathlib.Omega.{arith}
use borrow.Author.Rules.{rules}
use lib.Seq.{length-take-le}
use Rattle.plan.specs.Order.{unless_number}
use Rattle.state.specs.State.{genuine}
use Rattle.state.specs.declared.Sampler.{Sampler}
use Rattle.calls.specs.declared.Moved.{Moved}
use Rattle.calls.proofs.PointLaws.{axes_few}
use Rattle.day_set.specs.DaySet.{day_of, day_blank}
use Rattle.day_set.specs.Calls.{day_moved}
use Rattle.day_set.specs.declared.DaySet.{DaySet}
use Rattle.day_set.proofs.CaseLaws.{made_by, make_zeros}
use Rattle.day_calls.proofs.make_day_set.Goals as goal

pub slice_bounds-open-end : goal.slice_bounds-open-end
slice_bounds-open-end c = sym (length-take-le _ _ (omega arith))

-- a genuine state has six axes at most: one zero is lent for each
all : (s : Sampler) (axes : ℕ) → axes ≡ min s.axes 6 → genuine s ≡ true → axes ≡ s.axes
all s axes l g = omega (arith, l, (axes_few s g).1)

refused : (a : Moved) → (a.code ≡ 0 → ⊥) → (d : DaySet) → d ≡ day_blank → day_moved a.code d ≡ made_by a
refused a f d e = ap (day_moved a.code) (e ∙ go a.code f)
  where
    go : (n : ℕ) → (n ≡ 0 → ⊥) → day_blank ≡ unless_number n (day_of a.state) day_blank
    go zero g = absurd (g refl)
    go (suc n) g = refl

done : (a : Moved) → a.code ≡ 0 → day_moved 0 (day_of a.state) ≡ made_by a
done a z = rw z refl

pub returns-then-r-ne0 : goal.returns-then-r-ne0
returns-then-r-ne0 c =
    refused c.open-r.result (λ z. omega arith) _ c.blank_day_set.ensures
    ∙ ap made_by c.open-r.ensures ∙ sym (make_zeros _ _ _ (all _ _ c.min-axes.ensures))

pub returns : goal.returns
returns c =
    done c.open-r.result (omega arith)
    ∙ ap made_by c.open-r.ensures ∙ sym (make_zeros _ _ _ (all _ _ c.min-axes.ensures))
