-- `points::in_range` meets its contract: each comparison decides a part of the rule, without a sum that could wrap. Assumes nothing.
use mathlib.Core.Path.{sym}
use native.Mathlib.Omega.{arith}
use Rattle.points.proofs.RunLaws.{not_start, start_left}
use Rattle.points.proofs.in_range.Goals as goal

pub returns-then-start-gt-INDEXES : goal.returns-then-start-gt-INDEXES
returns-then-start-gt-INDEXES c = let a = c.args in sym (not_start a.start a.count (omega arith))

pub returns : goal.returns
returns c = let a = c.args in start_left a.start a.count (omega arith)
