-- The part that is read into has as many words as the line. Assumes nothing.
use mathlib.Core.Path.{sym}
use native.Mathlib.Omega.{arith}
use lib.Seq.{length-take-le}
use borrow.Author.Rules.{rules}
use Rattle.console_lines.proofs.plain_lines.count.Goals as goal

pub slice_bounds-window-end : goal.slice_bounds-window-end
slice_bounds-window-end c = sym (length-take-le _ _ (omega arith))
