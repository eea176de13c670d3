-- A window over a run of Halton points: which points are inside, how many, and how far that number may lie from its share (demand 3 of
-- 00-request.md). The axes are an indexed family, numbered from 0, with a number s of axes. Definitions only.
use Rattle.std.specs.Prelude.{Bool, ℕ, ◌+◌, ◌-◌, ◌*◌, ◌^◌, ◌≤◌, ◌<◌}
use Rattle.numbers.specs.Gcd.{Coprime}
use Rattle.numbers.specs.Digits.{digit_count, numerator_to, product_to}
use Rattle.numbers.specs.Depth.{depth}
use Rattle.numbers.specs.Count.{each}
use Rattle.numbers.specs.Cut.{below_cut}
use Rattle.permutation.specs.Permutes.{Permutes}

-- An axis with its run and its cut: at step t it reads the index start + stride × t, to `depth` digits, and the cut is u / q.
pub record CutAxis : Type 0 where
  pub base : ℕ
  pub image : ℕ → ℕ
  pub start : ℕ
  pub stride : ℕ
  pub depth : ℕ
  pub u : ℕ
  pub q : ℕ

-- the index that the axis reads at step t
abbrev pub index_at : CutAxis → ℕ → ℕ
index_at a t = a.start + a.stride * t

-- the axis's fraction at step t lies below its cut
unfoldable pub in_cut : CutAxis → ℕ → Bool
in_cut a t = below_cut (numerator_to a.image a.base a.depth (index_at a t)) (a.base ^ a.depth) a.u a.q

-- axis i, at step t
abbrev pub axis_in : (ℕ → CutAxis) → ℕ → ℕ → Bool
axis_in ax t i = in_cut (ax i) t

-- the point of step t is inside: below the cut on each of the s axes
unfoldable pub inside : (ℕ → CutAxis) → ℕ → ℕ → Bool
inside ax s t = each (axis_in ax t) s

-- an axis's factor of the bound: K (b - 1) + 1, K the number of digits of N in base b
unfoldable pub factor : ℕ → ℕ → ℕ
factor b N = digit_count b N * (b - 1) + 1

-- the bound over the bases b of s axes: the product of the factors
abbrev pub factor_at : (ℕ → ℕ) → ℕ → ℕ → ℕ
factor_at b N i = factor (b i) N

abbrev pub bound : (ℕ → ℕ) → ℕ → ℕ → ℕ
bound b s N = product_to (factor_at b N) s

-- S, how many of N points are inside, differs from N times U / Q by less than B, U being the product of all u and Q that of all q. Multiplied
-- out over whole numbers: the size of S × Q - N × U is less than B × Q.
pub record Near (N S U Q B : ℕ) : Type 0 where
  pub not_above : S * Q < N * U + B * Q
  pub not_below : N * U < S * Q + B * Q

-- the bases, the u and the q of axes
abbrev pub base_of : (ℕ → CutAxis) → ℕ → ℕ
base_of ax i = (ax i).base

abbrev pub u_of : (ℕ → CutAxis) → ℕ → ℕ
u_of ax i = (ax i).u

abbrev pub q_of : (ℕ → CutAxis) → ℕ → ℕ
q_of ax i = (ax i).q

-- ---- what is asked

-- of an axis over N steps: its digits are permuted with 0 first, and every index used has at most `depth` digits
pub record Sound (N : ℕ) (a : CutAxis) : Type 0 where
  pub base_big : 2 ≤ a.base
  pub permutes : Permutes a.base a.image
  pub stride_coprime : Coprime a.stride a.base
  pub reach : (t : ℕ) → t < N → index_at a t < a.base ^ a.depth
  pub q_pos : 0 < a.q
  pub u_le : a.u ≤ a.q

-- of s axes: each is sound, and any two bases are coprime
pub record SoundAxes (N : ℕ) (ax : ℕ → CutAxis) (s : ℕ) : Type 0 where
  pub sound : (i : ℕ) → i < s → Sound N (ax i)
  pub coprime : (i j : ℕ) → j < i → i < s → Coprime (ax i).base (ax j).base

-- ---- a run with indexes below 2^32

-- Axis i of a run over the bases b, with the digit maps σ, a start for each axis, the stride r that all share, and the cuts u / q.
unfoldable pub halton_axes : (ℕ → ℕ → ℕ) → (b start : ℕ → ℕ) → ℕ → (u q : ℕ → ℕ) → ℕ → CutAxis
halton_axes σ b start r u q i =
    record { base = b i; image = σ i; start = start i; stride = r; depth = depth (b i); u = u i; q = q i }

-- what a plan, a run of N steps and a window have to meet
pub record HaltonRun (N s : ℕ) (σ : ℕ → ℕ → ℕ) (b start : ℕ → ℕ) (r : ℕ) (u q : ℕ → ℕ) : Type 0 where
  pub base_big : (i : ℕ) → i < s → 2 ≤ b i
  pub permutes : (i : ℕ) → i < s → Permutes (b i) (σ i)
  pub coprime : (i j : ℕ) → j < i → i < s → Coprime (b i) (b j)
  pub stride_coprime : (i : ℕ) → i < s → Coprime r (b i)
  pub index : (i t : ℕ) → i < s → t < N → start i + r * t < 2 ^ 32
  pub q_pos : (i : ℕ) → i < s → 0 < q i
  pub u_le : (i : ℕ) → i < s → u i ≤ q i
