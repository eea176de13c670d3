-- A sum is below a limit where one part is below what the other leaves of it. Assumes nothing.
use mathlib.Core.Path.{◌≡◌}
use Prim.Native.Nat.{ℕ, ◌+◌, ◌-◌}
use native.Mathlib.Omega.{arith}
use lib.Dec.{ltb}
use Rattle.numbers.proofs.Cases.{lt_iff}

pub left_test : (x base limit bound : ℕ) → bound ≡ limit - base → ltb x bound ≡ ltb (base + x) limit
left_test x base limit bound e = lt_iff x bound (base + x) limit (λ h. omega arith) (λ h. omega arith)
