-- `index_calls::has_slots` meets its contract: one law a return. Assumes nothing.
use mathlib.Core.Path.{sym}
use native.Mathlib.Omega.{arith}
use Rattle.calls.proofs.CaseLaws.{slots_before, slots_past, slots_none, slots_by}
use Rattle.index_calls.proofs.has_slots.Goals as goal

pub returns-then-axis-lt1 : goal.returns-then-axis-lt1
returns-then-axis-lt1 c = sym (slots_before _ _ _ (omega arith))

pub returns-then-axes-axis : goal.returns-then-axes-axis
returns-then-axes-axis c = sym (slots_past _ _ _ (omega arith) (omega arith))

pub returns-then-slots-lt1 : goal.returns-then-slots-lt1
returns-then-slots-lt1 c = sym (slots_none _ _ _ (omega arith) (omega arith) (omega arith))

pub returns : goal.returns
returns c = slots_by _ _ _ (omega arith) (omega arith) (omega arith)
