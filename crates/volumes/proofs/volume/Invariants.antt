-- After i turns v is the product of i cuts. Assumes nothing.
use mathlib.Core.Path.{◌≡◌}
use Prim.Native.Nat.{◌^◌, ◌≤◌}
use Rattle.volumes.specs.Volume.{finely_to}
use Rattle.volumes.proofs.volume.Given as goal

abbrev pub invariant-loop-i : goal.invariant-loop-i
invariant-loop-i l = (l.v ≡ finely_to l.w l.i) × (l.v ≤ 10 ^ 18)
