-- What is left is served from the state and the words at hand, and each step that answers 0 leaves one point fewer. Assumes nothing.
use Rattle.std.proofs.Common.{◌≡◌, ℕ}
use Rattle.collector.specs.Serving.{left, served}
use Rattle.collector.proofs.collect.Given as goal

abbrev pub invariant-loop-code : goal.invariant-loop-code
invariant-loop-code l = served l.s l.point ≡ served l.initial.s l.initial.point

abbrev pub decreases-loop-code : goal.decreases-loop-code
decreases-loop-code l = left l.s
