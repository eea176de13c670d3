-- `day_calls::day_step` meets its contract: it is the run's step behind the first word, and the point's number in that. Assumes nothing.
-- the starts are tested first
-- where the run's step is taken
use native.Mathlib.Omega.{arith}
use mathlib.Core.Path.{◌≡◌, sym, ap, ◌∙◌}
use mathlib.Core.Bool.{true}
use mathlib.Core.List.{List, ◌∷◌}
use Prim.Native.Nat.{ℕ, suc, ◌≤◌}
use borrow.Author.Rules.{rules}
use lib.ListN.{length, drop}
use Rattle.plan.specs.Order.{unless_number}
use Rattle.calls.specs.Calls.{step_spec, step_buf}
use Rattle.calls.specs.declared.Moved.{Moved}
use Rattle.calls.proofs.CaseLaws.{foreign_of, known_of}
use Rattle.day_set.specs.DaySet.{day_of, from_zero}
use Rattle.day_set.specs.Calls.{day_moved}
use Rattle.day_set.proofs.CaseLaws.{foreign_start, day_step_foreign, step_wraps}
use Rattle.day_calls.proofs.FrontLaws.{lent_is, whole_long, put_is, step_room, step_kept}
use Rattle.day_calls.proofs.day_step.Goals as goal
use Rattle.day_calls.proofs.day_step.Goals.{After-step-r, Else-not-from_zero}

zero : (c : Else-not-from_zero) → from_zero c.args.d.run.starts ≡ true
zero c = known_of _ _ c.from_zero.ensures c.if-not-from_zero.false

pub returns-then-not-from_zero : goal.returns-then-not-from_zero
returns-then-not-from_zero c =
    let a = c.args in
    let w = day_step_foreign a.d a.out.now (foreign_start a.d (foreign_of _ _ c.from_zero.ensures c.if-not-from_zero.true)) in
    (sym w.0, sym w.1)

-- the run's step is lent what lies behind the first word
lent : (c : After-step-r) → let a = c.args in c.step-r.result ≡ step_spec a.d.run (drop 1 a.out.now)
lent c =
    let a = c.args in
    let l = c.min-first in
    c.step-r.ensures.0 ∙ ap (step_spec a.d.run) (lent_is a.out.now l.result (omega arith) (omega arith) (λ x h k. omega (arith, h, k)))

room : (c : After-step-r) → c.step-r.result.code ≡ 0 → 1 ≤ length c.args.out.now
room c z = let a = c.args in step_room a.d.run a.out.now (sym (ap (λ (r : Moved). r.code) (lent c)) ∙ z)

pub put_number-requires : goal.put_number-requires
put_number-requires c =
    let l = c.min-first in
    λ z. whole_long c.args.out.now l.result (omega arith) (omega arith) (λ x h k. omega (arith, h, k)) c.step-r.new.out (room (goal.at.put_number-requires c).After-step-r z)

-- what lies behind the first word is kept where the step is refused
behind : (c : After-step-r) (part : List ℕ) → let a = c.args in let B = drop 1 a.out.now in
    part ≡ step_buf a.d.run B → (k : ℕ) → c.step-r.result.code ≡ suc k → part ≡ B
behind c part e k f =
    let a = c.args in
    e ∙ step_kept a.d.run (drop 1 a.out.now) k (sym (ap (λ (r : Moved). r.code) (lent c)) ∙ f)

pub returns : goal.returns
returns c =
    let l = c.min-first in
    let a = c.args in
    let buf = a.out.now in
    let B = drop 1 buf in
    let w = step_wraps a.d (zero (goal.at.returns c).Else-not-from_zero) buf in
    let is = lent_is buf l.result (omega arith) (omega arith) (λ x h k. omega (arith, h, k)) in
    let part = c.step-r.ensures.1 ∙ ap (step_buf a.d.run) is in (
      ap (λ (r : Moved). day_moved r.code (day_of r.state)) (lent (goal.at.returns c).After-step-r) ∙ sym w.0,
      c.put_number.ensures
          ∙ put_is buf l.result (omega arith) (omega arith) (λ x h k. omega (arith, h, k)) _ a.d.run.taken _ (room (goal.at.returns c).After-step-r) (behind (goal.at.returns c).After-step-r _ part)
          ∙ ap (λ (x : List ℕ). unless_number c.step-r.result.code (a.d.run.taken ∷ x) buf) part
          ∙ ap (λ (r : Moved). unless_number r.code (a.d.run.taken ∷ step_buf a.d.run B) buf) (lent (goal.at.returns c).After-step-r)
          ∙ sym w.1,
    )
