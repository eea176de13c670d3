-- A window over a plan's run (01-scope.md, "Runs and windows"): which points are inside, how many, and the bound of demand 3. A window is a list
-- of cuts, one for each axis. Definitions only.
use Rattle.std.specs.Prelude.{Bool, ◌&&◌, List, [], ◌∷◌, ◌++◌, ℕ, zero, suc, ◌+◌, ◌*◌, ◌^◌, ◌≤◌, ◌<◌, ltb, leb, eqb, length, get_or}
use Rattle.numbers.specs.Count.{count, each}
use Rattle.numbers.specs.Cut.{below_cut}
use Rattle.numbers.specs.Digits.{product_to}
use Rattle.permutation.specs.Families.{image_of}
use Rattle.discrepancy.specs.Bound.{CutAxis, bound, halton_axes}
use Rattle.plan.specs.Plan.{Plan, halton, sobol}
use Rattle.points.specs.Point.{axis_count, denominator_of}
use Rattle.points.specs.Run.{Run, index_at, run_numerator}

-- a cut at the fraction u / q
pub record Cut : Type 0 where
  pub u : ℕ
  pub q : ℕ

abbrev pub no_cut : Cut
no_cut = record { u = 0; q = 0 }

abbrev pub u_of : List Cut → ℕ → ℕ
u_of w i = (get_or w i no_cut).u

abbrev pub q_of : List Cut → ℕ → ℕ
q_of w i = (get_or w i no_cut).q

-- U and Q: the products of the u and of the q of s axes
abbrev pub u_product : List Cut → ℕ → ℕ
u_product w s = product_to (u_of w) s

abbrev pub q_product : List Cut → ℕ → ℕ
q_product w s = product_to (q_of w) s

-- ---- the points inside

-- a fraction x / d lies inside a cut: x × q is less than u × d
abbrev pub in_cut : Cut → ℕ → ℕ → Bool
in_cut c x d = below_cut x d c.u c.q

-- axis i is inside at step t of the run
unfoldable pub axis_inside : Plan → List Cut → Run → ℕ → ℕ → Bool
axis_inside p w r t i = in_cut (get_or w i no_cut) (run_numerator p r t i) (denominator_of p i)

-- the point of step t is inside, on every axis
unfoldable pub step_inside : Plan → List Cut → Run → ℕ → Bool
step_inside p w r t = each (axis_inside p w r t) (axis_count p)

-- S: how many of the run's points are inside
unfoldable pub inside_count : Plan → List Cut → Run → ℕ
inside_count p w r = count (step_inside p w r) r.count

-- ---- a Halton-family plan's axes, and the bound

abbrev pub base_at : List ℕ → ℕ → ℕ
base_at bases i = get_or bases i 0

-- the axes of a Halton-family plan, with their cuts: at step t axis i reads its first index + stride × t
unfoldable pub cut_axes : ℕ → List ℕ → (ℕ → ℕ) → ℕ → (ℕ → Cut) → ℕ → CutAxis
cut_axes family bases first stride cut =
    halton_axes (λ i. image_of family (base_at bases i)) (base_at bases) first stride (λ i. (cut i).u) (λ i. (cut i).q)

-- a run's: each axis from its index of step 0 on, with stride 1
abbrev pub run_axes : ℕ → List ℕ → List Cut → Run → ℕ → CutAxis
run_axes family bases w r = cut_axes family bases (λ i. index_at r i 0) 1 (λ i. get_or w i no_cut)

-- the bound that a count of N points reports: for Sobol 0, which claims none
unfoldable pub bound_of : Plan → ℕ → ℕ
bound_of (halton family bases) N = bound (base_at bases) (length bases) N
bound_of (sobol axes) N = 0

-- each cut is a fraction from 0 to 1, ends included
pub record Cuts (w : List Cut) (s : ℕ) : Type 0 where
  pub q_pos : (i : ℕ) → i < s → 0 < q_of w i
  pub u_le : (i : ℕ) → i < s → u_of w i ≤ q_of w i

-- ---- what the calls take: a list of u and q for each axis in turn

abbrev pub cut_at : List ℕ → ℕ → Cut
cut_at w i = record { u = get_or w (2 * i) 0; q = get_or w (2 * i + 1) 0 }

-- the window of s axes that it gives
unfoldable pub cuts_of : List ℕ → ℕ → List Cut
cuts_of w zero = []
cuts_of w (suc s) = cuts_of w s ++ cut_at w s ∷ []

-- q from 1 to 2^24, u from 0 to q
unfoldable pub is_cut : Cut → Bool
is_cut c = ltb 0 c.q && (leb c.q (2 ^ 24) && leb c.u c.q)

abbrev pub is_cut_at : List ℕ → ℕ → Bool
is_cut_at w i = is_cut (cut_at w i)

-- one u and one q for each of s axes, each in its range
unfoldable pub is_window : List ℕ → ℕ → Bool
is_window w s = eqb (length w) (2 * s) && each (is_cut_at w) s
