-- `numbers::quotient` meets its contract: the product's whole part is the quotient or one more, and times b it tells which. Assumes nothing.
use mathlib.Core.Path.{◌≡◌, ap}
use Prim.Native.Nat.{ℕ, ◌+◌, ◌*◌, ◌/◌, ◌^◌}
use native.Mathlib.Omega.{arith}
use Rattle.numbers.proofs.ReciprocalLaws.{Near, near}
use Rattle.numbers.proofs.quotient.Goals as goal
use Rattle.numbers.proofs.quotient.Goals.{Start}

whole : (s : Start) → Near s.args.n s.args.b (s.args.n * s.args.m / 2 ^ 32)
whole s = rw s.requires.3 (near s.args.b s.args.n (omega arith) (omega arith))

product : (s : Start) → s.args.n * s.args.m ≡ s.args.n * (2 ^ 32 / s.args.b + 1)
product s = ap (λ (x : ℕ). s.args.n * x) s.requires.3

pub overflow_mul-q : goal.overflow_mul-q
overflow_mul-q c = omega (arith, product c, (whole c).product)

pub overflow_mul-q-2 : goal.overflow_mul-q-2
overflow_mul-q-2 c = omega (arith, (whole c).back)

pub overflow_sub-result : goal.overflow_sub-result
overflow_sub-result c = omega (arith, (whole (goal.at.overflow_sub-result c).Start).over c.if-n-q.true)

pub returns-then-n-q : goal.returns-then-n-q
returns-then-n-q c = omega (arith, (whole (goal.at.returns-then-n-q c).Start).over c.if-n-q.true)

pub returns-else-n-q : goal.returns-else-n-q
returns-else-n-q c = (whole (goal.at.returns-else-n-q c).Start).exact (omega arith)
