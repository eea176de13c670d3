-- The bound's whole part, and what its rest gives, make the limit. Assumes nothing.
use Prim.Native.Nat.{◌/◌}
use native.Mathlib.Omega.{arith}
use Rattle.shares.proofs.LimitLaws.{up_of, limit_parts, rest_low, whole_fits, parts_of}
use borrow.Author.Rules.{rules}
use Rattle.shares.proofs.limit.Goals as goal

-- the contract, before what fits
pub returns : goal.returns
returns c =
    let bound = c.args.bound in
    let n = c.args.n in
    parts_of (bound / n) (up_of bound n) _ (limit_parts bound n (omega arith))

pub overflow_mul-up : goal.overflow_mul-up
overflow_mul-up c = omega (arith, rest_low c.args.bound c.args.n (omega arith))

pub overflow_add-up : goal.overflow_add-up
overflow_add-up c = omega (arith, rest_low c.args.bound c.args.n (omega arith))

pub overflow_add-result : goal.overflow_add-result
overflow_add-result c = record { fits = whole_fits c.args.bound c.args.n (omega arith) _ (omega arith) (omega arith) }
