-- The rules of bases, m's and axes, one more at the end. Assumes nothing.
use mathlib.Core.Path.{◌≡◌}
use mathlib.Core.List.{List, [], ◌∷◌, ◌++◌}
use Prim.Native.Nat.{ℕ, ◌≤◌, ◌<◌}
use native.Mathlib.Omega.{arith}
use lib.ListN.{length, get_or}
use Rattle.numbers.specs.Gcd.{Coprime}
use Rattle.sobol.specs.Directions.{OddBelow, AllOddBelow}
use Rattle.plan.specs.Plan.{Axis, no_axis, ValidBases, ValidAxis, ValidAxes}
use Rattle.plan.specs.Refusals.{NotAmong}
use Rattle.plan.proofs.PlaceLaws.{places_snoc, pairs_snoc}

pub no_bases : ValidBases []
no_bases = record { low = λ i h. absurd (omega arith); high = λ i h. absurd (omega arith); coprime = λ i j h k. absurd (omega arith) }

pub bases_snoc : {bases : List ℕ} {b : ℕ} → ValidBases bases → 2 ≤ b → b ≤ 256 → ((j : ℕ) → j < length bases → Coprime b (get_or bases j 0))
    → ValidBases (bases ++ b ∷ [])
bases_snoc {bases} {b} v low high new =
    record {
      low = places_snoc 0 (λ i a. 2 ≤ a) bases b v.low low;
      high = places_snoc 0 (λ i a. a ≤ 256) bases b v.high high;
      coprime = pairs_snoc 0 Coprime bases b v.coprime new;
    }

pub no_ms : AllOddBelow 0 []
unfolding AllOddBelow
no_ms = λ j h. absurd (omega arith)

pub ms_snoc : (ms : List ℕ) (m : ℕ) → AllOddBelow (length ms) ms → OddBelow (length ms) m → AllOddBelow (length (ms ++ m ∷ [])) (ms ++ m ∷ [])
unfolding AllOddBelow
ms_snoc ms m h k = places_snoc 0 OddBelow ms m h k

pub no_axes : ValidAxes []
no_axes = record { valid = λ i h. absurd (omega arith); distinct = λ i j h k. absurd (omega arith) }

-- of different polynomials
abbrev pub Differ : Axis → Axis → Type 0
Differ x y = x.polynomial ≡ y.polynomial → ⊥

pub axes_snoc : {axes : List Axis} {x : Axis} → ValidAxes axes → ValidAxis x → NotAmong x.polynomial axes → ValidAxes (axes ++ x ∷ [])
axes_snoc {axes} {x} v one new =
    record {
      valid = places_snoc no_axis (λ i y. ValidAxis y) axes x v.valid one;
      distinct = pairs_snoc no_axis Differ axes x v.distinct new;
    }
