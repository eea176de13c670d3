-- `class_count::lower_digit` meets its contract. Assumes nothing.
use mathlib.Core.Path.{refl, sym}
use native.Mathlib.Nat.{zero-mul, zero-div}
use native.Mathlib.Omega.{arith}
use Rattle.class_count.proofs.lower_digit.Goals as goal

pub returns-then-v-eq0 : goal.returns-then-v-eq0
returns-then-v-eq0 c = rw (c.if-v-eq0.true, zero-mul c.args.b) (sym (zero-div c.args.q))

pub overflow_mul-result : goal.overflow_mul-result
overflow_mul-result c = omega (arith, c.requires)

pub nonzero_div-result : goal.nonzero_div-result
nonzero_div-result c = omega (arith, c.requires)

pub returns : goal.returns
returns c = refl
