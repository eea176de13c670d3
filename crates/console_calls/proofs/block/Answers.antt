-- The console has the state of the call's answer. Assumes nothing.
use mathlib.Core.Path.{ap, ◌∙◌}
use Rattle.calls.specs.declared.Blocked.{Blocked}
use borrow.Author.Rules.{rules}
use Rattle.console_calls.proofs.block.Goals as goal

pub returns : goal.returns
returns c =
    let e = c.block-b.ensures in
    (record { state = c.with_state.ensures.state ∙ ap (λ (m : Blocked). m.state) e.0; day = c.with_state.ensures.day }, e.1)
