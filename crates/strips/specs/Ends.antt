-- Axes that are cut at two ends, the lower one inclusive and the upper one not. Definitions only.
use Rattle.std.specs.Prelude.{Bool, not, ◌&&◌, ℕ, ◌^◌}
use Rattle.numbers.specs.Count.{each}
use Rattle.numbers.specs.Cut.{below_cut}
use Rattle.numbers.specs.Digits.{numerator_to}
use Rattle.discrepancy.specs.Bound.{CutAxis, index_at, halton_axes}

-- The fraction x / d lies at l / q or above, and below u / q: l × denominator ≤ numerator × q < u × denominator.
unfoldable pub within_cut : ℕ → ℕ → ℕ → ℕ → ℕ → Bool
within_cut x d l u q = below_cut x d u q && not (below_cut x d l q)

-- An axis with its run and its upper end u / q, and the l of its lower end l / q.
pub record EndAxis : Type 0 where
  pub axis : CutAxis
  pub l : ℕ

-- the axis's fraction at step t lies within its ends
unfoldable pub in_ends : EndAxis → ℕ → Bool
in_ends a t =
    within_cut (numerator_to a.axis.image a.axis.base a.axis.depth (index_at a.axis t)) (a.axis.base ^ a.axis.depth) a.l
    a.axis.u a.axis.q

-- axis i, at step t
abbrev pub ends_in : (ℕ → EndAxis) → ℕ → ℕ → Bool
ends_in ax t i = in_ends (ax i) t

-- the point of step t is inside on each of the s axes
unfoldable pub inside_ends : (ℕ → EndAxis) → ℕ → ℕ → Bool
inside_ends ax s t = each (ends_in ax t) s

-- axis i of a run, with its lower end l i / q i
unfoldable pub halton_ends : (ℕ → ℕ → ℕ) → (b start : ℕ → ℕ) → ℕ → (l u q : ℕ → ℕ) → ℕ → EndAxis
halton_ends σ b start r l u q i = record { axis = halton_axes σ b start r u q i; l = l i }
