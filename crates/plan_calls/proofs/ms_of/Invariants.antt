-- The loop's invariant: the first k m's stand in front of zeros. Assumes nothing.
use mathlib.Core.Path.{◌≡◌}
use Rattle.numbers.specs.Listed.{listed, padded}
use Rattle.state.specs.State.{m_at}
use Rattle.plan_calls.proofs.ms_of.Given as goal

abbrev pub invariant-loop-k : goal.invariant-loop-k
invariant-loop-k l = l.ms ≡ padded 72 (listed (m_at l.directions) l.k)
