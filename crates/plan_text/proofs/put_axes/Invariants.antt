-- The axes so far, in at most 65 bytes each. Assumes nothing.
use Prim.Native.Nat.{◌+◌, ◌*◌, ◌≤◌}
use Rattle.text.specs.Put.{TextPut}
use Rattle.plan.specs.Answer.{axes_of}
use Rattle.plan_text.specs.Words.{axes_text}
use Rattle.plan_text.proofs.put_axes.Given as goal

abbrev pub invariant-loop-i : goal.invariant-loop-i
invariant-loop-i l = (l.at ≤ l.start + 65 * l.i) × TextPut l.initial.out l.out l.start (axes_text (axes_of l.polynomials l.ms l.i)) l.at
