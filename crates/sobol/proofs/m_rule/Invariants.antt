-- `sobol::m_rule` meets its contract. The loop's invariant: x is m_(i+1-d) xor the terms before j. A shift loses nothing, since the m's are below
-- their powers of two. Assumes nothing.
use mathlib.Core.Path.{◌≡◌}
use Prim.Native.Nat.{◌-◌}
use Rattle.sobol.specs.Directions.{m_terms}
use Rattle.sobol.proofs.m_rule.Given as goal

abbrev pub invariant-loop-j : goal.invariant-loop-j
invariant-loop-j l = l.x ≡ m_terms l.d l.p l.m l.i (l.j - 1)
