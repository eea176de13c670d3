-- `images::double_part` meets its contract: the numbers before place k are doubled, and no number that is still to be read is touched. Assumes nothing.
use Rattle.images.specs.Doubled.{Doubled}
use Rattle.images.proofs.double_part.Given as goal

abbrev pub invariant-loop-k : goal.invariant-loop-k
invariant-loop-k l = Doubled l.a l.k l.s l.initial.l l.l
