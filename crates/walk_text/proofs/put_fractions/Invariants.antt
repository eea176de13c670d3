-- After i turns the fractions of the first i axes are put, in at most 28 bytes each. Assumes nothing.
use Prim.Native.Nat.{◌+◌, ◌*◌, ◌≤◌}
use Rattle.text.specs.Put.{TextPut}
use Rattle.walk_text.specs.Parts.{fractions_at}
use Rattle.walk_text.proofs.put_fractions.Given as goal

abbrev pub invariant-loop-i : goal.invariant-loop-i
invariant-loop-i l = (l.at ≤ l.start + 28 * l.i) × TextPut l.initial.out l.out l.start (fractions_at l.p.family l.p.bases.now l.p.directions.now l.n l.i) l.at
