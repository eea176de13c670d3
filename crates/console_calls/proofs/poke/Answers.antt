-- The console has the state of the call's answer. Assumes nothing.
use mathlib.Core.Path.{◌∙◌}
use borrow.Author.Rules.{rules}
use Rattle.console_calls.proofs.poke.Goals as goal

pub returns : goal.returns
returns c =
    let e = c.poke-state.ensures in
    record { state = c.with_state.ensures.state ∙ e; day = c.with_state.ensures.day }
