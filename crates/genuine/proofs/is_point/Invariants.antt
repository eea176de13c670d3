-- The loop's invariant: the words so far are the point's. Assumes nothing.
use Prim.Native.Nat.{◌+◌}
use Rattle.points.specs.Arrays.{of_axis}
use Rattle.fitting.proofs.AnswerLaws.{PointTo}
use Rattle.genuine.proofs.is_point.Given as goal

abbrev pub invariant-loop-axis : goal.invariant-loop-axis
invariant-loop-axis l = PointTo l.s.family l.s.bases l.s.directions l.s.numerators (λ i. of_axis l.s.starts i + l.s.taken) l.axis
