-- One of the two differences is 0. Assumes nothing.
use borrow.Author.Rules.{rules}
use borrow.Author.Tests.{lt-ltb, le-ltb}
use mathlib.Core.Path.{◌≡◌, sym}
use mathlib.Core.Bool.{true, false}
use Prim.Native.Nat.{ℕ, ◌+◌, ◌-◌, ◌<◌, ◌≤◌}
use native.Mathlib.Omega.{arith}
use Rattle.shares.specs.declared.Difference.{Difference}
use Rattle.shares.specs.Rounding.{difference_of}
use Rattle.shares.proofs.subtract.Goals as goal

below : (x y : ℕ) → x < y → ◌≡◌ {A = Difference} (record { is_below = true; size = y - x }) (difference_of x y)
below x y h =
    let size : y - x ≡ (x - y) + (y - x) = omega arith in
    let test = sym (lt-ltb x y h) in
    cc

above : (x y : ℕ) → y ≤ x → ◌≡◌ {A = Difference} (record { is_below = false; size = x - y }) (difference_of x y)
above x y h =
    let size : x - y ≡ (x - y) + (y - x) = omega arith in
    let test = sym (le-ltb x y h) in
    cc

pub returns-then-x-y : goal.returns-then-x-y
returns-then-x-y c = below c.args.x c.args.y (omega arith)

pub returns : goal.returns
returns c = above c.args.x c.args.y (omega arith)
