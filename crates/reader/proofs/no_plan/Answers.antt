-- A refusal is answered by its number and zeros. Assumes nothing.
use mathlib.Core.Path.{refl}
use Rattle.plan.specs.Answer.{answer_of}
use Rattle.reader.proofs.no_plan.Goals as goal

pub returns : goal.returns
unfolding answer_of
returns c = rw c.number.ensures refl
