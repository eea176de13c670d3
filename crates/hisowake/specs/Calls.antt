-- What each C call answers, for all inputs, and what each lent byte then holds (01-scope.md, "What the collector carries" and "When a call is
-- turned down"). The reading's numbers come first, then the call's own. A refusal answers its number and changes no byte. Definitions only.
use Rattle.std.specs.Prelude.{Bool, ◌&&◌, List, [], ◌∷◌, ◌++◌, ℕ, ◌*◌, eqb, length, drop}
use Rattle.plan.specs.Plan.{Plan}
use Rattle.plan.specs.Reading.{Reading, refused, accepted, read_plan}
use Rattle.plan.specs.Order.{Condition, first_due, unless_due}
use Rattle.points.specs.Point.{axis_count, point_of}
use Rattle.points.specs.Run.{one_start}
use Rattle.window.specs.Counting.{inside_count, bound_of, cuts_of, is_window}
use Rattle.c_refusals.specs.Refusals.{point_refusals, count_refusals}
use Rattle.big_endian.specs.Bytes.{word_bytes, window_in}

-- ---- point

abbrev pub point_order : Plan → ℕ → List ℕ → List Condition
point_order p index out = point_refusals index (axis_count p) (length out)

unfoldable pub point_code_by : Reading → ℕ → List ℕ → ℕ
point_code_by (refused n) index out = n
point_code_by (accepted p) index out = first_due (point_order p index out)

unfoldable pub point_code : List ℕ → ℕ → List ℕ → ℕ
point_code plan index out = point_code_by (read_plan plan) index out

-- the point's numerators in front of what lay behind them
unfoldable pub point_bytes_by : Reading → ℕ → List ℕ → List ℕ
point_bytes_by (refused n) index out = out
point_bytes_by (accepted p) index out =
    unless_due (point_order p index out) (word_bytes (point_of p index) ++ drop (8 * axis_count p) out) out

unfoldable pub point_bytes : List ℕ → ℕ → List ℕ → List ℕ
point_bytes plan index out = point_bytes_by (read_plan plan) index out

-- ---- window count

-- 8 bytes an axis, and each u and q in its range
unfoldable pub is_window_bytes : List ℕ → ℕ → Bool
is_window_bytes window s = eqb (length window) (8 * s) && is_window (window_in window s) s

abbrev pub count_order : Plan → ℕ → ℕ → List ℕ → List ℕ → List Condition
count_order p start count window out = count_refusals start count (is_window_bytes window (axis_count p)) (length out)

-- S and the bound of the run with one start for all axes
unfoldable pub answers_of : Plan → ℕ → ℕ → List ℕ → List ℕ
answers_of p start count window =
    inside_count p (cuts_of (window_in window (axis_count p)) (axis_count p)) (one_start p start count) ∷ bound_of p count ∷ []

unfoldable pub count_code_by : Reading → ℕ → ℕ → List ℕ → List ℕ → ℕ
count_code_by (refused n) start count window out = n
count_code_by (accepted p) start count window out = first_due (count_order p start count window out)

unfoldable pub count_code : List ℕ → ℕ → ℕ → List ℕ → List ℕ → ℕ
count_code plan start count window out = count_code_by (read_plan plan) start count window out

-- they stand in front of what lay behind them
unfoldable pub count_bytes_by : Reading → ℕ → ℕ → List ℕ → List ℕ → List ℕ
count_bytes_by (refused n) start count window out = out
count_bytes_by (accepted p) start count window out =
    unless_due (count_order p start count window out) (word_bytes (answers_of p start count window) ++ drop 16 out) out

unfoldable pub count_bytes : List ℕ → ℕ → ℕ → List ℕ → List ℕ → List ℕ
count_bytes plan start count window out = count_bytes_by (read_plan plan) start count window out
