-- After n turns the lines of the first n indexes are put, in at most 200 bytes each. Assumes nothing.
use Prim.Native.Nat.{◌+◌, ◌*◌, ◌≤◌}
use Rattle.text.specs.Put.{TextPut}
use Rattle.walk_text.specs.Parts.{lines_at}
use Rattle.walk_text.proofs.put_lines.Given as goal

abbrev pub invariant-loop-n : goal.invariant-loop-n
invariant-loop-n l = (l.at ≤ l.start + 200 * l.n) × TextPut l.initial.out l.out l.start (lines_at l.p.family l.p.axes l.p.bases.now l.p.directions.now l.n) l.at
