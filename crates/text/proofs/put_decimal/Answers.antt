-- The digits that are put are all that the number has. Assumes nothing.
use mathlib.Core.Path.{◌≡◌, ap}
use Prim.Native.Nat.{ℕ}
use native.Mathlib.Omega.{arith}
use Rattle.text.specs.Decimal.{decimal_digits, decimal}
use Rattle.text.proofs.put_decimal.Goals as goal

pub returns : goal.returns
unfolding decimal
returns c =
    let n = c.args.n in
    let e : decimal_digits c.digit_places-k.result n ≡ decimal n = ap (λ (j : ℕ). decimal_digits j n) c.digit_places-k.ensures.0 in
    (rw e at c.put_digits.ensures.0, omega arith)
