-- `window::is_cut` meets its contract: one law a return. Assumes nothing.
use native.Mathlib.Omega.{arith}
use mathlib.Core.Path.{sym}
use Rattle.window.specs.Counting.{Cut}
use Rattle.window.proofs.RangeLaws.{cut_none, cut_fine, cut_by}
use Rattle.window.proofs.is_cut.Goals as goal
use Rattle.window.proofs.is_cut.Goals.{Start}

abbrev given : (c : Start) → Cut
given c = record { u = c.args.u; q = c.args.q }

pub returns-then-q-lt1 : goal.returns-then-q-lt1
returns-then-q-lt1 c = sym (cut_none (given (goal.at.returns-then-q-lt1 c).Start) (omega arith))

pub returns-then-q-gt16777216 : goal.returns-then-q-gt16777216
returns-then-q-gt16777216 c = sym (cut_fine (given (goal.at.returns-then-q-gt16777216 c).Start) (omega arith) (omega arith))

pub returns : goal.returns
returns c = cut_by (given (goal.at.returns c).Start) (omega arith) (omega arith)
