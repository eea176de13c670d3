-- The bases so far, in at most five bytes each. Assumes nothing.
use Prim.Native.Nat.{◌+◌, ◌*◌, ◌≤◌}
use lib.ListN.{take}
use Rattle.text.specs.Put.{TextPut}
use Rattle.plan_text.specs.Words.{bases_text}
use Rattle.plan_text.proofs.put_bases.Given as goal

abbrev pub invariant-loop-base : goal.invariant-loop-base
invariant-loop-base l = (l.at ≤ l.start + 5 * l.base-index) × TextPut l.initial.out l.out l.start (bases_text (take l.base-index l.base-items)) l.at
