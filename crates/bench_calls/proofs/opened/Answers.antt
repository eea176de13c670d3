-- A reading, and an opening on the state that it leaves. Assumes nothing.
use mathlib.Core.Path.{ap, ◌∙◌}
use Rattle.points.specs.Run.{run_of}
use Rattle.state.specs.declared.Sampler.{Sampler}
use Rattle.calls.specs.Calls.{open_spec}
use Rattle.calls.specs.declared.Moved.{Moved}
use Rattle.bench_calls.specs.Rounds.{opened_state}
use Rattle.bench_calls.proofs.opened.Goals as goal

pub returns : goal.returns
unfolding opened_state
returns c =
    let a = c.args in
    ap (λ (m : Moved). m.state) c.open-o.ensures ∙ ap (λ (s : Sampler). (open_spec s (run_of a.starts.now a.count)).state) c.state_of.ensures
