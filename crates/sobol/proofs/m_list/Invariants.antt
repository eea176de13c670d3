-- `sobol::m_list` meets its contract. The loop's invariant: the first i of the array are m_1 to m_i, which are odd and below their powers of two, as
-- the next one asks. Assumes nothing.
use mathlib.Core.Path.{◌≡◌}
use lib.ListN.{length, take}
use Rattle.sobol.specs.Directions.{m_list}
use Rattle.sobol.proofs.m_list.Given as goal

abbrev pub invariant-loop-i : goal.invariant-loop-i
invariant-loop-i l = (length l.m ≡ 32) × (take l.i l.m ≡ m_list l.d l.p l.given l.i)
