-- The axes held in arrays: a step is inside on one axis more, and within the rests of the ends. Assumes nothing.
use mathlib.Core.Path.{◌≡◌, refl, ap, ap₂, ◌∙◌}
use mathlib.Core.Bool.{Bool, true, false, not, ◌&&◌, and_comm}
use mathlib.Core.List.{List}
use Prim.Native.Nat.{ℕ, ◌+◌, ◌-◌, ◌*◌, ◌<◌}
use native.Mathlib.Nat.{one-mul}
use native.Mathlib.Numerals.{add-one}
use native.Mathlib.Omega.{arith}
use Rattle.numbers.specs.Count.{bit, each}
use Rattle.numbers.specs.Depth.{denominator}
use Rattle.halton.specs.Axis.{numerator}
use Rattle.discrepancy.specs.Bound.{halton_axes}
use Rattle.strips.specs.Ends.{EndAxis, within_cut, in_ends, inside_ends, halton_ends}
use Rattle.strips.specs.Classes.{below_rest, within_rest, passes, base_in, start_in, l_in, u_in, q_in, image_from, table_axes}
use Rattle.strips.proofs.RestLaws.{within_below}

module _ (l rows : List ℕ) where
  abbrev ax : ℕ → EndAxis
  ax = table_axes l rows

  -- ---- a step

  pub table_none : (o : ℕ) → inside_ends ax 0 o ≡ true
  unfolding inside_ends each
  table_none o = refl

  table_last : (s o : ℕ)
      → inside_ends ax (s + 1) o ≡ within_rest (image_from l (256 * s)) (base_in rows s) (q_in rows s) (l_in rows s) (u_in rows s) (start_in rows s + o) && inside_ends ax s o
  unfolding inside_ends each in_ends table_axes halton_ends halton_axes within_rest within_cut numerator denominator
  table_last s o = rw (add-one s, one-mul o) (and_comm (inside_ends ax s o) (within_rest (image_from l (256 * s)) (base_in rows s) (q_in rows s) (l_in rows s) (u_in rows s) (start_in rows s + o)))

  -- axis i - 1 is the last of i
  pub table_more : (i o : ℕ) → 0 < i
      → inside_ends ax i o ≡ within_rest (image_from l (256 * (i - 1))) (base_in rows (i - 1)) (q_in rows (i - 1)) (l_in rows (i - 1)) (u_in rows (i - 1)) (start_in rows (i - 1) + o) && inside_ends ax (i - 1) o
  table_more i o h = ap (λ (j : ℕ). inside_ends ax j o) {x = i} {y = i - 1 + 1} (omega arith) ∙ table_last (i - 1) o

  table_passes : (s v u x o : ℕ) → passes ax s v u x o ≡ within_rest (image_from l (256 * s)) (base_in rows s) (q_in rows s) v u x && inside_ends ax s o
  unfolding passes table_axes halton_ends halton_axes
  table_passes s v u x o = refl

  pub passes_out : (s v u x o : ℕ) {y : Bool} → y ≡ within_rest (image_from l (256 * s)) (base_in rows s) (q_in rows s) v u x → y ≡ false → 0 ≡ bit (passes ax s v u x o)
  passes_out s v u x o e f = rw (table_passes s v u x o, ← e, f)

  pub passes_in : (s v u x o : ℕ) {y z : Bool} → y ≡ within_rest (image_from l (256 * s)) (base_in rows s) (q_in rows s) v u x → y ≡ true → z ≡ inside_ends ax s o
      → bit z ≡ bit (passes ax s v u x o)
  passes_in s v u x o e f g = rw (table_passes s v u x o, ← e, f, ← g)

  -- an index against both ends
  pub rest_out : (s v u x : ℕ) {y : Bool} → y ≡ below_rest (image_from l (256 * s)) (base_in rows s) (q_in rows s) u x → y ≡ false
      → false ≡ within_rest (image_from l (256 * s)) (base_in rows s) (q_in rows s) v u x
  unfolding within_rest within_cut below_rest
  rest_out s v u x e f = rw (← e, f)

  pub rest_in : (s v u x : ℕ) {y z : Bool} → y ≡ below_rest (image_from l (256 * s)) (base_in rows s) (q_in rows s) u x → y ≡ true
      → z ≡ below_rest (image_from l (256 * s)) (base_in rows s) (q_in rows s) v x → not z ≡ within_rest (image_from l (256 * s)) (base_in rows s) (q_in rows s) v u x
  unfolding within_rest within_cut below_rest
  rest_in s v u x e f g = rw (← e, f, ← g)

  pub rest_free : (s v u x : ℕ) {y : Bool} → y ≡ below_rest (image_from l (256 * s)) (base_in rows s) (q_in rows s) u x → y ≡ true → v ≡ 0
      → true ≡ within_rest (image_from l (256 * s)) (base_in rows s) (q_in rows s) v u x
  rest_free s v u x e f g = rw (g, within_below (image_from l (256 * s)) (base_in rows s) (q_in rows s) u x, ← e, f)
