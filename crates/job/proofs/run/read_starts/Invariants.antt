-- The place after the starts so far is in the text, and there is room for six.
use Rattle.std.proofs.Common.{◌≡◌, ◌≤◌, length}
use Rattle.job.proofs.run.read_starts.Given as goal

abbrev pub invariant-loop-i : goal.invariant-loop-i
invariant-loop-i l = (l.at ≤ length l.text) × (length l.starts ≡ 6)
