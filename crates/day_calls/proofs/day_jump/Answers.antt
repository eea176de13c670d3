-- `day_calls::day_jump` meets its contract: it is the run's jump behind the first word, and the point's number in that. Assumes nothing.
-- the starts are tested first
-- where the run's jump is taken
use native.Mathlib.Omega.{arith}
use mathlib.Core.Path.{◌≡◌, sym, ap, ◌∙◌}
use mathlib.Core.Bool.{true}
use mathlib.Core.List.{List, ◌∷◌}
use Prim.Native.Nat.{ℕ, suc, ◌≤◌}
use borrow.Author.Rules.{rules}
use lib.ListN.{length, drop}
use Rattle.plan.specs.Order.{unless_number}
use Rattle.calls.specs.Calls.{jump_spec, jump_buf}
use Rattle.calls.specs.declared.Jumped.{Jumped}
use Rattle.calls.proofs.CaseLaws.{foreign_of, known_of}
use Rattle.day_set.specs.DaySet.{from_zero}
use Rattle.day_set.proofs.CaseLaws.{foreign_start, day_jump_foreign, jump_wraps}
use Rattle.day_calls.proofs.FrontLaws.{lent_is, whole_long, put_is, jump_room, jump_kept}
use Rattle.day_calls.proofs.day_jump.Goals as goal
use Rattle.day_calls.proofs.day_jump.Goals.{After-jump-r, Else-not-from_zero}

zero : (c : Else-not-from_zero) → from_zero c.args.d.run.starts ≡ true
zero c = known_of _ _ c.from_zero.ensures c.if-not-from_zero.false

pub returns-then-not-from_zero : goal.returns-then-not-from_zero
returns-then-not-from_zero c =
    let a = c.args in
    let w = day_jump_foreign a.d a.out.now (foreign_start a.d (foreign_of _ _ c.from_zero.ensures c.if-not-from_zero.true)) a.n in
    (sym w.0, sym w.1)

-- the index that it is given
abbrev index : (c : After-jump-r) → ℕ
index c = c.index_of-index.result

-- the run's jump is lent what lies behind the first word
lent : (c : After-jump-r) → let a = c.args in c.jump-r.result ≡ jump_spec a.d.run (index c) (drop 1 a.out.now)
lent c =
    let a = c.args in
    let l = c.min-first in
    c.jump-r.ensures.0 ∙ ap (jump_spec a.d.run (index c)) (lent_is a.out.now l.result (omega arith) (omega arith) (λ x h k. omega (arith, h, k)))

room : (c : After-jump-r) → c.jump-r.result.code ≡ 0 → 1 ≤ length c.args.out.now
room c z = let a = c.args in jump_room a.d.run (index c) a.out.now (sym (ap (λ (r : Jumped). r.code) (lent c)) ∙ z)

pub put_number-requires : goal.put_number-requires
put_number-requires c =
    let l = c.min-first in
    λ z. whole_long c.args.out.now l.result (omega arith) (omega arith) (λ x h k. omega (arith, h, k)) c.jump-r.new.out (room (goal.at.put_number-requires c).After-jump-r z)

-- what lies behind the first word is kept where the jump is refused
behind : (c : After-jump-r) (part : List ℕ) → let a = c.args in let B = drop 1 a.out.now in
    part ≡ jump_buf a.d.run (index c) B → (k : ℕ) → c.jump-r.result.code ≡ suc k → part ≡ B
behind c part e k f =
    let a = c.args in
    e ∙ jump_kept a.d.run (index c) (drop 1 a.out.now) k (sym (ap (λ (r : Jumped). r.code) (lent c)) ∙ f)

pub returns : goal.returns
returns c =
    let l = c.min-first in
    let a = c.args in
    let buf = a.out.now in
    let B = drop 1 buf in
    let i = c.index_of-index.ensures in
    let w = jump_wraps a.d (zero (goal.at.returns c).Else-not-from_zero) buf a.n (index (goal.at.returns c).After-jump-r) i.0 i.1 in
    let is = lent_is buf l.result (omega arith) (omega arith) (λ x h k. omega (arith, h, k)) in
    let part = c.jump-r.ensures.1 ∙ ap (jump_buf a.d.run (index (goal.at.returns c).After-jump-r)) is in (
      lent (goal.at.returns c).After-jump-r ∙ sym w.0,
      c.put_number.ensures
          ∙ put_is buf l.result (omega arith) (omega arith) (λ x h k. omega (arith, h, k)) _ a.n _ (room (goal.at.returns c).After-jump-r) (behind (goal.at.returns c).After-jump-r _ part)
          ∙ ap (λ (x : List ℕ). unless_number c.jump-r.result.code (a.n ∷ x) buf) part
          ∙ ap (λ (r : Jumped). unless_number r.code (a.n ∷ jump_buf a.d.run (index (goal.at.returns c).After-jump-r) B) buf) (lent (goal.at.returns c).After-jump-r)
          ∙ sym w.1,
    )
