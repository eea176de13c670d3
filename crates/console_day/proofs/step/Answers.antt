-- The console has the day set of the call's answer. Assumes nothing.
use mathlib.Core.Path.{ap, ◌∙◌}
use Rattle.day_set.specs.declared.DayMoved.{DayMoved}
use borrow.Author.Rules.{rules}
use Rattle.console_day.proofs.step.Goals as goal

pub returns : goal.returns
returns c =
    let e = c.day_step-m.ensures in
    (record { state = c.with_day.ensures.state; day = c.with_day.ensures.day ∙ ap (λ (m : DayMoved). m.set) e.0 }, e.1)
