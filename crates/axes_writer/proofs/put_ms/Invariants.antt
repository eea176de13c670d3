-- After i turns the first i m's stand from the start on, in at most twelve bits each. Assumes nothing.
use Prim.Native.Nat.{◌+◌, ◌*◌, ◌≤◌}
use lib.ListN.{take, drop}
use Rattle.plan.specs.Plan.{ms_bits}
use Rattle.axes_writer.specs.Parts.{BitsPut}
use Rattle.axes_writer.proofs.put_ms.Given as goal

abbrev pub invariant-loop-i : goal.invariant-loop-i
invariant-loop-i l = (l.at ≤ l.start + 12 * l.i) × BitsPut l.initial.out l.out l.start (ms_bits 1 (take l.i (drop l.from l.ms))) l.at
