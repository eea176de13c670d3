-- One law an answer. Assumes nothing.
use native.Mathlib.Omega.{arith}
use borrow.Author.Rules.{rules}
use Rattle.c_refusals.proofs.RefusalLaws.{point_out, point_no_room, point_none}
use Rattle.c_refusals.proofs.point_refusal.Goals as goal

pub returns-then-index-ge-INDEXES : goal.returns-then-index-ge-INDEXES
returns-then-index-ge-INDEXES c = let a = c.args in point_out a.index a.axes a.room (omega arith)

pub returns-then-room-axes : goal.returns-then-room-axes
returns-then-room-axes c = let a = c.args in point_no_room a.index a.axes a.room (omega arith) (omega arith)

pub returns : goal.returns
returns c = let a = c.args in point_none a.index a.axes a.room (omega arith) (omega arith)
