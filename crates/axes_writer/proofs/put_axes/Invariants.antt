-- After i turns the first i axes stand from bit 5 on, in at most 160 bits each. Assumes nothing.
use Prim.Native.Nat.{◌+◌, ◌*◌, ◌≤◌}
use Rattle.plan.specs.Plan.{axes_bits}
use Rattle.plan.specs.Answer.{axes_of}
use Rattle.axes_writer.specs.Parts.{BitsPut}
use Rattle.axes_writer.proofs.put_axes.Given as goal

abbrev pub invariant-loop-i : goal.invariant-loop-i
invariant-loop-i l = (l.at ≤ 5 + 160 * l.i) × BitsPut l.initial.out l.out 5 (axes_bits (axes_of l.polynomials l.ms l.i)) l.at
