-- `window::bound_factor` meets its contract: no factor passes 1,276. Assumes nothing.
use native.Mathlib.Omega.{arith}
use mathlib.Core.Path.{ap}
use Prim.Native.Nat.{ℕ, ◌+◌, ◌-◌, ◌*◌, ◌≤◌}
use Rattle.discrepancy.specs.Bound.{factor}
use Rattle.discrepancy.proofs.FitLaws.{factor_le}
use Rattle.window.proofs.bound_factor.Goals as goal
use Rattle.window.proofs.bound_factor.Goals.{After-digit_count}

small : (c : After-digit_count) → c.digit_count.result * (c.args.b - 1) + 1 ≤ 1276
unfolding factor
small c = rw c.digit_count.ensures (factor_le c.args.b c.args.n (omega arith) (omega arith) (omega arith))

pub overflow_mul-result : goal.overflow_mul-result
overflow_mul-result c = omega (arith, small c)

pub overflow_add-result : goal.overflow_add-result
overflow_add-result c = omega (arith, small c)

pub returns : goal.returns
unfolding factor
returns c = ap (λ (k : ℕ). k * (c.args.b - 1) + 1) c.digit_count.ensures
