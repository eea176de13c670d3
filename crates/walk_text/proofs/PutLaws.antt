-- One more fraction, and one more line, put after those before. Assumes nothing.
use mathlib.Core.Path.{◌≡◌}
use mathlib.Core.List.{List}
use Prim.Native.Nat.{ℕ, ◌+◌, ◌≤◌}
use native.Mathlib.Numerals.{add-one}
use lib.ListN.{length}
use Rattle.text.specs.Put.{TextPut}
use Rattle.text.proofs.PutLaws.{put_none, put_then}
use Rattle.points.specs.Arrays.{numerator_at, denominator_at}
use Rattle.walk_text.specs.Parts.{fraction, fractions_at, line_at, lines_at}

module _ (family : ℕ) (bases vs : List ℕ) (n : ℕ) where
  pub no_fraction : (old : List ℕ) (at : ℕ) → TextPut old old at (fractions_at family bases vs n 0) at
  unfolding fractions_at
  no_fraction old at = put_none old at

  pub next_fraction : {old mid new : List ℕ} {at next end x d : ℕ} (i : ℕ) → at ≤ length old → x ≡ numerator_at family bases vs n i
      → d ≡ denominator_at family bases i → TextPut old mid at (fractions_at family bases vs n i) next → TextPut mid new next (fraction x d) end
      → TextPut old new at (fractions_at family bases vs n (i + 1)) end
  unfolding fractions_at
  next_fraction i room ex ed p q = rw (add-one, ← ex, ← ed) (put_then room p q)

module _ (family axes : ℕ) (bases vs : List ℕ) where
  pub no_line : (old : List ℕ) (at : ℕ) → TextPut old old at (lines_at family axes bases vs 0) at
  unfolding lines_at
  no_line old at = put_none old at

  pub next_line : {old mid new : List ℕ} {at next end : ℕ} (k : ℕ) → at ≤ length old → TextPut old mid at (lines_at family axes bases vs k) next
      → TextPut mid new next (line_at family axes bases vs k) end → TextPut old new at (lines_at family axes bases vs (k + 1)) end
  unfolding lines_at
  next_line k room p q = rw add-one (put_then room p q)
