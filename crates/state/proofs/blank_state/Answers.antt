-- `state::blank_state` meets its contract: the fields are the blank state's. Assumes nothing.
use mathlib.Core.Path.{refl}
use Rattle.state.specs.State.{blank}
use Rattle.state.proofs.blank_state.Goals as goal

pub returns : goal.returns
unfolding blank
returns c = refl
