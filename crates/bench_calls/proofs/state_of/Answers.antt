-- A reading's state. Assumes nothing.
use mathlib.Core.Path.{ap}
use Rattle.calls.specs.declared.Moved.{Moved}
use Rattle.bench_calls.proofs.state_of.Goals as goal

pub returns : goal.returns
returns c = ap (λ (m : Moved). m.state) c.read-r.ensures
