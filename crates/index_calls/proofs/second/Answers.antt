-- `index_calls::second` meets its contract: what the slot call answers for 86,400 on axis 1. Assumes nothing.
use mathlib.Core.Path.{sym, ap, ◌∙◌}
use borrow.Author.Rules.{rules}
use Rattle.calls.specs.declared.SecondOfDay.{SecondOfDay}
use Rattle.calls.specs.declared.Slotted.{Slotted}
use Rattle.calls.proofs.SlotLaws.{second_is_slot}
use Rattle.index_calls.proofs.second.Goals as goal

-- a second out of a slot
abbrev second_of : Slotted → SecondOfDay
second_of r = record { code = r.code; second = r.slot }

pub returns : goal.returns
returns c = ap second_of c.slot-r.ensures ∙ sym (second_is_slot _ _)
