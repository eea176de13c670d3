-- A run of a plan's points (01-scope.md, "Runs and windows"; 02-change-requests.md, K6): which index an axis reads at a step, which runs are opened,
-- and the points in their order. Definitions only.
use Rattle.std.specs.Prelude.{◌≡◌, Bool, true, not, ◌&&◌, ◌||◌, List, ℕ, ◌+◌, ◌^◌, leb, eqb, length, get_or, replicate}
use Rattle.numbers.specs.Count.{each}
use Rattle.numbers.specs.Listed.{listed, joined}
use Rattle.plan.specs.Plan.{Plan}
use Rattle.points.specs.Point.{axis_count, numerator_of}
use Rattle.points.specs.Arrays.{family_of}

-- the index of the first point on each axis, and the number of points
pub record Run : Type 0 where
  pub starts : List ℕ
  pub count : ℕ

abbrev pub run_of : List ℕ → ℕ → Run
run_of starts count = record { starts = starts; count = count }

-- one start for all axes of a plan: the run of 01, the day set and the C calls
unfoldable pub one_start : Plan → ℕ → ℕ → Run
one_start p start count = run_of (replicate (axis_count p) start) count

-- the index that axis i reads at step t, the first step being step 0
unfoldable pub index_at : Run → ℕ → ℕ → ℕ
index_at r i t = get_or r.starts i 0 + t

-- the indexes that the axes read at step t
unfoldable pub indexes_at : Run → ℕ → List ℕ
indexes_at r t = listed (λ i. index_at r i t) (length r.starts)

-- its n steps from step t on, as a run of their own
unfoldable pub part_of : Run → ℕ → ℕ → Run
part_of r t n = run_of (indexes_at r t) n

-- ---- the runs that are opened

-- start + count is at most 2^32
unfoldable pub start_in_range : ℕ → ℕ → Bool
start_in_range start count = leb (start + count) (2 ^ 32)

-- for each start given, also where they are not one for each axis
unfoldable pub in_range : Run → Bool
in_range r = each (λ i. start_in_range (get_or r.starts i 0) r.count) (length r.starts)

-- all starts are equal
unfoldable pub same_starts : List ℕ → Bool
same_starts starts = each (λ i. eqb (get_or starts i 0) (get_or starts 0 0)) (length starts)

-- one start for each axis; the axes of a Sobol plan, family 2, share one. Any other list is a "split start" (17).
unfoldable pub has_starts : ℕ → ℕ → List ℕ → Bool
has_starts family axes starts = eqb (length starts) axes && (not (eqb family 2) || same_starts starts)

-- an opening takes the run
pub record Opens (p : Plan) (r : Run) : Type 0 where
  pub is_in_range : in_range r ≡ true
  pub has_starts_lem : has_starts (family_of p) (axis_count p) r.starts ≡ true

-- ---- its points

-- the numerator of axis i at step t
unfoldable pub run_numerator : Plan → Run → ℕ → ℕ → ℕ
run_numerator p r t i = numerator_of p (index_at r i t) i

-- the point of step t: one numerator per axis
unfoldable pub run_point : Plan → Run → ℕ → List ℕ
run_point p r t = listed (run_numerator p r t) (axis_count p)

-- the points of the steps t, t + 1, .., t + k - 1, point after point
abbrev pub run_points : Plan → Run → ℕ → ℕ → List ℕ
run_points p r = joined (run_point p r)
