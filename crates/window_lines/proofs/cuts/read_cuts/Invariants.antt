-- The cuts are read one after another, and there is room for seven.
use Rattle.std.proofs.Common.{◌≡◌, ◌≤◌, length}
use Rattle.window_lines.proofs.cuts.read_cuts.Given as goal

abbrev pub invariant-loop-i : goal.invariant-loop-i
invariant-loop-i l = (l.at ≤ length l.line) × (l.read.axes ≤ 7) × (length l.read.cuts ≡ 14)
