-- A making from the state of the plan. Assumes nothing.
use mathlib.Core.Path.{ap, ◌∙◌}
use Rattle.state.specs.declared.Sampler.{Sampler}
use Rattle.day_set.specs.Calls.{make_spec}
use Rattle.day_set.specs.declared.DayMoved.{DayMoved}
use Rattle.bench_calls.specs.Rounds.{made_set}
use Rattle.bench_calls.proofs.made.Goals as goal

pub returns : goal.returns
unfolding made_set
returns c =
    let a = c.args in
    ap (λ (m : DayMoved). m.set) c.make_day_set-m.ensures ∙ ap (λ (s : Sampler). (make_spec s a.size).set) c.state_of.ensures
