-- `inside_count::total` meets its contract: so many of the first i flags are set. Assumes nothing.
use mathlib.Core.Path.{◌≡◌}
use mathlib.Core.Bool.{Bool}
use Prim.Native.Nat.{ℕ, ◌*◌, ◌≤◌}
use Rattle.numbers.specs.Count.{count}
use Rattle.inside_count.specs.Flagging.{Flags}
use Rattle.inside_count.proofs.total.Given as goal

abbrev pub invariant-loop-flag : goal.invariant-loop-flag
invariant-loop-flag l = (l.t ≤ 255 * l.flag-index) × ((p : ℕ → Bool) → Flags p l.m l.l → l.t ≡ count p l.flag-index)
