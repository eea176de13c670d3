-- Points by arrays: the words of a point one by one. Assumes nothing.
use mathlib.Core.Path.{◌≡◌, ap, ◌∙◌}
use mathlib.Core.List.{List}
use Prim.Native.Nat.{ℕ, ◌+◌, ◌<◌}
use native.Mathlib.Omega.{arith}
use lib.ListN.{get_or, replicate}
use Rattle.numbers.specs.Listed.{listed, padded}
use Rattle.numbers.proofs.ListedLaws.{listed_at, listed_same, zeros_at, padded_at}
use Rattle.points.specs.Arrays.{numerator_at, of_axis, point_at}

module _ (family axes : ℕ) (bases vs : List ℕ) where
  pub point_at_word : (n : ℕ → ℕ) (i : ℕ) → i < axes → get_or (point_at family axes bases vs n) i 0 ≡ numerator_at family bases vs (n i) i
  unfolding point_at
  point_at_word n i h =
      padded_at 6 (listed (λ k. numerator_at family bases vs (n k) k) axes) i ∙ listed_at (λ k. numerator_at family bases vs (n k) k) axes i h

  -- by equal indexes
  pub point_at_same : (m n : ℕ → ℕ) → ((i : ℕ) → i < axes → m i ≡ n i) → point_at family axes bases vs m ≡ point_at family axes bases vs n
  unfolding point_at
  point_at_same m n same =
      ap (padded 6)
      (listed_same (λ i. numerator_at family bases vs (m i) i) (λ i. numerator_at family bases vs (n i) i) axes
      (λ i h. ap (λ (k : ℕ). numerator_at family bases vs k i) (same i h)))

  -- one index for all axes, from 0 on
  pub point_at_all : (n : ℕ) → point_at family axes bases vs (λ i. of_axis (replicate 6 0) i + n) ≡ point_at family axes bases vs (λ i. n)
  point_at_all n = point_at_same (λ i. of_axis (replicate 6 0) i + n) (λ i. n) (λ i h. omega (arith, zeros_at 6 i))
