-- `window::bound` meets its contract: the product of the first i factors. Assumes nothing.
use native.Mathlib.Omega.{arith}
use mathlib.Core.Path.{◌≡◌, sym, ap, ap₂, ◌∙◌}
use Prim.Native.Nat.{ℕ, ◌+◌, ◌-◌, ◌*◌, ◌^◌, ◌≤◌, ◌<◌}
use Rattle.points.proofs.ArrayLaws.{base_range}
use Rattle.discrepancy.specs.Bound.{bound}
use Rattle.window.specs.Counting.{base_at}
use Rattle.window.proofs.RangeLaws.{bound_over_none, bound_over_more, bound_over_fits, bound_sobol, bound_halton}
use Rattle.window.proofs.bound.Given as goal

abbrev pub invariant-loop-i : goal.invariant-loop-i
invariant-loop-i l = l.product ≡ bound (base_at l.p.bases.now) l.i l.n
