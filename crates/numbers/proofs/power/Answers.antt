-- After i factors the product is b ^ i, which is at most the power asked for and so fits. Assumes nothing.
use mathlib.Core.Path.{◌≡◌, sym, ap, ◌∙◌}
use Prim.Native.Nat.{ℕ, ◌+◌, ◌*◌, ◌^◌}
use native.Mathlib.Omega.{arith}
use Rattle.numbers.proofs.DigitLaws.{pow_one_more, pow_up_to}
use Rattle.numbers.proofs.power.Goals as goal
use Rattle.numbers.proofs.power.Goals.{In-loop-i}

-- the product is the next power
next : (c : In-loop-i) → c.loop-i.p * c.args.b ≡ c.args.b ^ (c.loop-i.i + 1)
next c = ap (λ (x : ℕ). x * c.args.b) c.loop-i.invariant ∙ sym (pow_one_more _ _)

pub overflow_mul-p : goal.overflow_mul-p
overflow_mul-p c =
    let a = c.args in
    omega (arith, next c, pow_up_to a.b {j = c.loop-i.i + 1} {k = a.k} (omega arith) (omega arith))
