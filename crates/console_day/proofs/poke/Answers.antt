-- The console has the day set of the call's answer. Assumes nothing.
use mathlib.Core.Path.{ap, ◌∙◌}
use Rattle.day_set.specs.DaySet.{day_of}
use borrow.Author.Rules.{rules}
use Rattle.console_day.proofs.poke.Goals as goal

pub returns : goal.returns
returns c =
    let e = c.poke-run.ensures in
    record { state = c.with_day.ensures.state; day = c.with_day.ensures.day ∙ ap day_of e }
