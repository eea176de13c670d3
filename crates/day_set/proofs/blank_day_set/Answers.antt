-- `day_set::blank_day_set` meets its contract. Assumes nothing.
use mathlib.Core.Path.{ap}
use borrow.Author.Rules.{rules}
use Rattle.day_set.specs.DaySet.{day_of, day_blank}
use Rattle.day_set.proofs.blank_day_set.Goals as goal

pub returns : goal.returns
unfolding day_blank
returns c = ap day_of c.blank_state.ensures
