-- The sampler's state: what a plan, a run and the number of points taken leave, and the test that a state is such a one. Definitions only.
use Rattle.std.specs.Prelude.{List, [], ◌∷◌, Bool, true, false, cond, ℕ, ◌+◌, ◌-◌, ◌*◌, ◌/◌, ◌%◌, ◌^◌, ltb, leb, eqb, get_or, replicate, take}
use Rattle.numbers.specs.Listed.{listed, padded}
use Rattle.plan.specs.Plan.{Plan, spell}
use Rattle.plan.specs.Reading.{Reading, refused, accepted, read_plan}
use Rattle.plan.specs.Answer.{plan_of}
use Rattle.points.specs.Point.{axis_count}
use Rattle.points.specs.Run.{Run, run_of, in_range, has_starts, run_point}
use Rattle.points.specs.Arrays.{family_of, bases_array, polynomials_array, directions_array}
use Rattle.state.specs.declared.Sampler.{Sampler}

-- The kit's `◌&&◌` computes as soon as it can, so that the laws of state/proofs could not find its two tests again: this one stays shut.
unfoldable pub both : Bool → Bool → Bool
both true b = b
both false b = false

-- a state by its words, in the struct's order
abbrev pub state_of : ℕ → ℕ → List ℕ → List ℕ → List ℕ → List ℕ → ℕ → ℕ → List ℕ → Sampler
state_of family axes bases polynomials directions starts count taken numerators = record {
  family = family;
  axes = axes;
  bases = bases;
  polynomials = polynomials;
  directions = directions;
  starts = starts;
  count = count;
  taken = taken;
  numerators = numerators;
}

-- ---- the state of a run

-- the run's next point, and zeros where no point is left, 0 on the axes that the plan lacks
unfoldable pub next_point : Plan → Run → ℕ → List ℕ
next_point p r taken = cond (ltb taken r.count) (padded 6 (run_point p r taken)) (replicate 6 0)

-- the state with this plan and run, so many of whose points are taken
unfoldable pub made : Plan → Run → ℕ → Sampler
made p r taken = record {
  family = family_of p;
  axes = axis_count p;
  bases = bases_array p;
  polynomials = polynomials_array p;
  directions = directions_array p;
  starts = padded 6 r.starts;
  count = r.count;
  taken = taken;
  numerators = next_point p r taken;
}

-- the blank state, all zero
unfoldable pub blank : Sampler
blank = record {
  family = 0;
  axes = 0;
  bases = replicate 6 0;
  polynomials = replicate 6 0;
  directions = replicate 192 0;
  starts = replicate 6 0;
  count = 0;
  taken = 0;
  numerators = replicate 6 0;
}

-- ---- the plan and the run that a state holds

-- The m at place k, 12 places for each axis, by the direction numbers: v_(j+1) is m_(j+1) × 2^(31-j).
unfoldable pub m_at : List ℕ → ℕ → ℕ
m_at vs k = get_or vs (32 * (k / 12) + k % 12) 0 / 2 ^ (31 - k % 12)

unfoldable pub ms_in : List ℕ → List ℕ
ms_in vs = listed (m_at vs) 72

unfoldable pub plan_in : Sampler → Plan
plan_in s = plan_of s.family s.axes s.bases s.polynomials (ms_in s.directions)

abbrev pub run_in : Sampler → Run
run_in s = run_of (take s.axes s.starts) s.count

-- ---- the test

-- an opening takes the run, and no more points are taken than it has
unfoldable pub permitted : Plan → Run → ℕ → Bool
permitted p r taken = both (in_range r) (both (has_starts (family_of p) (axis_count p) r.starts) (leb taken r.count))

unfoldable pub same_words : List ℕ → List ℕ → Bool
same_words [] [] = true
same_words [] (y ∷ ys) = false
same_words (x ∷ xs) [] = false
same_words (x ∷ xs) (y ∷ ys) = both (eqb x y) (same_words xs ys)

unfoldable pub same_plan : Sampler → Sampler → Bool
same_plan s t =
    both (eqb s.family t.family) (both (eqb s.axes t.axes)
    (both (same_words s.bases t.bases) (both (same_words s.polynomials t.polynomials) (same_words s.directions t.directions))))

unfoldable pub same_run : Sampler → Sampler → Bool
same_run s t =
    both (same_words s.starts t.starts) (both (eqb s.count t.count) (both (eqb s.taken t.taken) (same_words s.numerators t.numerators)))

unfoldable pub same_state : Sampler → Sampler → Bool
same_state s t = both (same_plan s t) (same_run s t)

unfoldable pub genuine_by : Reading → Sampler → Bool
genuine_by (refused n) s = false
genuine_by (accepted p) s =
    both (permitted p (run_in s) s.taken) (same_state s (made p (run_in s) s.taken))

-- A state is genuine if the plan that it holds, spelled and read again, makes the very same state. Any other is foreign (number 15).
unfoldable pub genuine : Sampler → Bool
genuine s = genuine_by (read_plan (spell (plan_in s))) s
