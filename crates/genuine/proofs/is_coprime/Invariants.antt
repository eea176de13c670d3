-- The loop's invariant: b is coprime to the bases so far. Assumes nothing.
use Rattle.fitting.specs.Fits.{CoprimeTo}
use Rattle.genuine.proofs.is_coprime.Given as goal

abbrev pub invariant-loop-j : goal.invariant-loop-j
invariant-loop-j l = CoprimeTo l.b l.bases l.j
