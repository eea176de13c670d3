-- The console has the day set of the call's answer. Assumes nothing.
use mathlib.Core.Path.{ap, ◌∙◌}
use Rattle.day_set.specs.declared.DayBlocked.{DayBlocked}
use borrow.Author.Rules.{rules}
use Rattle.console_day.proofs.block.Goals as goal

pub returns : goal.returns
returns c =
    let e = c.day_block-b.ensures in
    (record { state = c.with_day.ensures.state; day = c.with_day.ensures.day ∙ ap (λ (m : DayBlocked). m.set) e.0 }, e.1)
