-- The loop has read the first i of the m's, and the rest of the reading decides. Assumes nothing.
use Rattle.sobol_reader.proofs.MsLaws.{MsLoop}
use Rattle.sobol_reader.proofs.read_ms.Given as goal

abbrev pub invariant-loop-i : goal.invariant-loop-i
invariant-loop-i l = MsLoop l.bytes l.start l.degree l.ms l.at l.i
