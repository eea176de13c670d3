-- `inside_count::cut_limit` meets its contract: u × d is below 2^64 by at least 2^24. Assumes nothing.
use mathlib.Core.Path.{refl}
use Prim.Native.Nat.{◌-◌, ◌*◌, ◌^◌, ◌≤◌}
use native.Mathlib.Nat.{mul-le-mul}
use native.Mathlib.Omega.{arith}
use Rattle.inside_count.specs.Flagging.{cut_limit}
use Rattle.inside_count.proofs.cut_limit.Goals as goal
use Rattle.inside_count.proofs.cut_limit.Goals.{Start}

small : (c : Start) → c.args.u * c.args.d ≤ 2 ^ 24 * (2 ^ 40 - 1)
small c = mul-le-mul {n₂ = 2 ^ 24} {m₂ = 2 ^ 40 - 1} (omega arith) (omega arith)

pub overflow_mul-result : goal.overflow_mul-result
overflow_mul-result c = omega (arith, small c)

pub overflow_add-result : goal.overflow_add-result
overflow_add-result c = omega (arith, small c)

pub returns : goal.returns
unfolding cut_limit
returns c = refl
