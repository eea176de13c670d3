-- `bench_calls::slot_by` meets its contract: each call answers its definition. Assumes nothing.
use mathlib.Core.Path.{ap, ◌∙◌}
use Rattle.calls.specs.declared.SecondOfDay.{SecondOfDay}
use Rattle.calls.specs.declared.Slotted.{Slotted}
use Rattle.bench_calls.specs.Rounds.{slot_by}
use Rattle.bench_calls.proofs.slot_by.Goals as goal

pub returns-then-daily : goal.returns-then-daily
unfolding slot_by
returns-then-daily c = ap (λ (r : SecondOfDay). r.second) c.second-r.ensures ∙ rw c.if-daily.true

pub returns : goal.returns
unfolding slot_by
returns c = ap (λ (r : Slotted). r.slot) c.slot-r.ensures ∙ rw c.if-daily.false
