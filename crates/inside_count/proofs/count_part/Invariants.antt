-- `inside_count::count_part` meets its contract: after i axes a flag says whether its point is inside on them. Assumes nothing.
use mathlib.Core.Path.{◌≡◌}
use lib.ListN.{length}
use Rattle.points.specs.Arrays.{of_axis}
use Rattle.window.specs.Walking.{inside_from}
use Rattle.inside_count.specs.Flagging.{Flags}
use Rattle.inside_count.proofs.count_part.Given as goal

abbrev pub invariant-loop-i : goal.invariant-loop-i
invariant-loop-i l = Flags (inside_from l.p.family l.p.bases.now l.p.directions.now l.w l.i (of_axis l.ns)) l.m l.l × (length l.l ≡ 4096)
