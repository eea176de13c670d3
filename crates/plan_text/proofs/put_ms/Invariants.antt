-- The m's so far, in at most five bytes each. Assumes nothing.
use Prim.Native.Nat.{◌+◌, ◌*◌, ◌≤◌}
use lib.ListN.{take, drop}
use Rattle.text.specs.Put.{TextPut}
use Rattle.plan_text.specs.Words.{ms_text}
use Rattle.plan_text.proofs.put_ms.Given as goal

abbrev pub invariant-loop-k : goal.invariant-loop-k
invariant-loop-k l = (l.at ≤ l.start + 5 * l.k) × TextPut l.initial.out l.out l.start (ms_text 0 (take l.k (drop (12 * l.i) l.ms))) l.at
