-- At degree 0 the polynomial is 1, and else the shifted 1 is 2^d, which loses no bit at degree 12 or below. Assumes nothing.
use mathlib.Core.Path.{◌≡◌, refl, sym}
use Prim.Native.Nat.{ℕ, zero, suc, ◌+◌, ◌*◌, ◌%◌, ◌^◌, ◌≤◌}
use native.Mathlib.Nat.{mod-eq_of_lt, one-mul}
use native.Mathlib.Omega.{arith}
use lib.Pow.{pow_mono}
use Rattle.plan.specs.Reading.{polynomial_of}
use Rattle.sobol_reader.proofs.polynomial.Goals as goal

at_zero : (d a : ℕ) → d ≡ 0 → polynomial_of d a ≡ 1
unfolding polynomial_of
at_zero d a e = rw e refl

shifted : (d : ℕ) → d ≤ 12 → 1 * 2 ^ d % 2 ^ 64 ≡ 2 ^ d
shifted d h = rw one-mul (mod-eq_of_lt (omega (arith, pow_mono {i = d} {j = 12} h)))

at_more : (d a : ℕ) → 1 ≤ d → d ≤ 12 → 1 * 2 ^ d % 2 ^ 64 + 2 * a + 1 ≡ polynomial_of d a
unfolding polynomial_of
at_more zero a h k = absurd (omega arith)
at_more (suc d) a h k = rw (shifted (suc d) k) refl

pub overflow_add-result : goal.overflow_add-result
overflow_add-result c = omega (arith, shifted c.args.d (omega arith), pow_mono {i = c.args.d} {j = 12} (omega arith))

pub overflow_add-result-else-d-eq0 : goal.overflow_add-result-else-d-eq0
overflow_add-result-else-d-eq0 c = omega (arith, shifted c.args.d (omega arith), pow_mono {i = c.args.d} {j = 12} (omega arith))

pub returns-then-d-eq0 : goal.returns-then-d-eq0
returns-then-d-eq0 c = sym (at_zero c.args.d c.args.a (omega arith))

pub returns-else-d-eq0 : goal.returns-else-d-eq0
returns-else-d-eq0 c = at_more c.args.d c.args.a (omega arith) (omega arith)
