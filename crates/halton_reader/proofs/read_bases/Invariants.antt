-- The loop has read the first i bases, and the rest of the reading decides. Assumes nothing.
use Rattle.halton_reader.proofs.BasesLaws.{BasesLoop}
use Rattle.halton_reader.proofs.read_bases.Given as goal

abbrev pub invariant-loop-i : goal.invariant-loop-i
invariant-loop-i l = BasesLoop l.bytes l.axes l.bases l.at l.i
