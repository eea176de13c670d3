-- After i turns the first i bases stand from bit 5 on. Assumes nothing.
use Prim.Native.Nat.{◌+◌, ◌*◌}
use lib.ListN.{take}
use Rattle.plan.specs.Plan.{bases_bits}
use Rattle.axes_writer.specs.Parts.{BitsPut}
use Rattle.axes_writer.proofs.put_bases.Given as goal

abbrev pub invariant-loop-i : goal.invariant-loop-i
invariant-loop-i l = BitsPut l.initial.out l.out 5 (bases_bits (take l.i l.bases)) (5 + 8 * l.i)
