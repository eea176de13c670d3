-- `c_refusals::count_refusal` meets its contract: one law an answer. Assumes nothing.
use mathlib.Core.Path.{◌≡◌, sym, ◌∙◌}
use mathlib.Core.Bool.{true}
use native.Mathlib.Omega.{arith}
use borrow.Author.Rules.{rules}
use borrow.Author.Tests.{not-true, not-false}
use Rattle.points.specs.Run.{start_in_range}
use Rattle.c_refusals.proofs.RefusalLaws.{count_out, count_off, count_no_room, count_none}
use Rattle.c_refusals.proofs.count_refusal.Goals as goal
use Rattle.c_refusals.proofs.count_refusal.Goals.{Else-not-in_range}

range : (c : Else-not-in_range) → let a = c.args in start_in_range a.start a.count ≡ true
range c = let r = c.in_range in sym r.ensures ∙ c.if-not-in_range.false

pub returns-then-not-in_range : goal.returns-then-not-in_range
returns-then-not-in_range c =
    let a = c.args in
    let r = c.in_range in
    count_out a.start a.count a.window a.room (sym r.ensures ∙ c.if-not-in_range.true)

pub returns-then-not-window : goal.returns-then-not-window
returns-then-not-window c =
    let a = c.args in
    count_off a.start a.count a.window a.room (range (goal.at.returns-then-not-window c).Else-not-in_range) c.if-not-window.true

pub returns-then-room-lt16 : goal.returns-then-room-lt16
returns-then-room-lt16 c =
    let a = c.args in
    count_no_room a.start a.count a.window a.room (range (goal.at.returns-then-room-lt16 c).Else-not-in_range) c.if-not-window.false (omega arith)

pub returns-else-room-lt16 : goal.returns-else-room-lt16
returns-else-room-lt16 c =
    let a = c.args in
    count_none a.start a.count a.window a.room (range (goal.at.returns-else-room-lt16 c).Else-not-in_range) c.if-not-window.false (omega arith)
