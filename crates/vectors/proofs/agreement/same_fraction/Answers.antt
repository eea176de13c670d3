-- Each product has a factor of at most 2^40 and one of at most 2^20. Assumes nothing.
use Prim.Native.Nat.{◌^◌}
use native.Mathlib.Nat.{mul-le-mul}
use native.Mathlib.Omega.{arith}
use borrow.Author.Tests.{eqb-true}
use Rattle.vectors.proofs.agreement.same_fraction.Goals as goal

pub returns-then-x-gt1099511627776 : goal.returns-then-x-gt1099511627776
returns-then-x-gt1099511627776 c e = cc

pub returns-then-d-gt1099511627776 : goal.returns-then-d-gt1099511627776
returns-then-d-gt1099511627776 c e = cc

pub returns-then-top-gt1048576 : goal.returns-then-top-gt1048576
returns-then-top-gt1048576 c e = cc

pub returns-then-bottom-gt1048576 : goal.returns-then-bottom-gt1048576
returns-then-bottom-gt1048576 c e = cc

pub returns-then-bottom-eq0 : goal.returns-then-bottom-eq0
returns-then-bottom-eq0 c e = cc

pub overflow_mul-result : goal.overflow_mul-result
overflow_mul-result c = omega (arith, mul-le-mul {n₂ = 2 ^ 40} {m₂ = 2 ^ 20} c.if-x-gt1099511627776.false c.if-bottom-gt1048576.false)

pub overflow_mul-result-2 : goal.overflow_mul-result-2
overflow_mul-result-2 c = omega (arith, mul-le-mul {n₂ = 2 ^ 20} {m₂ = 2 ^ 40} c.if-top-gt1048576.false c.if-d-gt1099511627776.false)

pub returns : goal.returns
returns c e = eqb-true _ _ e
