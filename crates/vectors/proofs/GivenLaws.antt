-- The m's that document 003 gives are odd and below 2, 4 and 8. Assumes nothing.
use mathlib.Core.Path.{refl}
use mathlib.Core.List.{[], ◌∷◌}
use Prim.Native.Nat.{zero, suc}
use native.Mathlib.Omega.{arith}
use Rattle.sobol.specs.Directions.{AllOddBelow}

pub given_odd_below : AllOddBelow 3 (1 ∷ 3 ∷ 7 ∷ [])
unfolding AllOddBelow
given_odd_below zero l = record { odd = refl; below = omega arith }
given_odd_below (suc zero) l = record { odd = refl; below = omega arith }
given_odd_below (suc (suc zero)) l = record { odd = refl; below = omega arith }
given_odd_below (suc (suc (suc j))) l = absurd (omega arith)
