-- The text by a plan's arrays is the plan's text. Assumes nothing.
use mathlib.Core.Path.{◌≡◌, refl, ap₂}
use mathlib.Core.List.{List, ◌++◌, append_assoc}
use Prim.Native.Nat.{ℕ, zero, suc, ◌≤◌}
use native.Mathlib.Omega.{arith}
use Rattle.plan.specs.Plan.{Plan, Valid}
use Rattle.points.specs.Point.{axis_count, numerator_of, denominator_of}
use Rattle.points.specs.Run.{Run}
use Rattle.points.specs.Arrays.{family_of, bases_array, directions_array, Arrays}
use Rattle.points.proofs.ArrayLaws.{arrays_of, numerator_at_plan, denominator_at_plan}
use Rattle.state.specs.State.{made}
use Rattle.state.specs.declared.Sampler.{Sampler}
use Rattle.text.specs.Decimal.{decimal}
use Rattle.walk_text.specs.Text.{space, slash, fractions, line, lines}
use Rattle.walk_text.specs.Parts.{fraction, fractions_at, line_at, lines_at}

one_more : (a b c d e : List ℕ) → a ++ (b ++ c ++ d ++ e) ≡ a ++ b ++ c ++ d ++ e
one_more a b c d e = simp append_assoc

module _ (p : Plan) (v : Valid p) where
  fractions_at_plan : (n s : ℕ) → s ≤ axis_count p → fractions_at (family_of p) (bases_array p) (directions_array p) n s ≡ fractions p n s
  unfolding fractions_at fraction fractions
  fractions_at_plan n zero h = refl
  fractions_at_plan n (suc s) h =
      rw (fractions_at_plan n s (omega arith), numerator_at_plan p v n s h, denominator_at_plan p v s)
      (one_more (fractions p n s) space (decimal (numerator_of p n s)) slash (decimal (denominator_of p s)))

  line_at_plan : (n : ℕ) → line_at (family_of p) (axis_count p) (bases_array p) (directions_array p) n ≡ line p n
  unfolding line_at line
  line_at_plan n = rw (fractions_at_plan n (axis_count p) (omega arith))

  pub lines_at_plan : (k : ℕ) → lines_at (family_of p) (axis_count p) (bases_array p) (directions_array p) k ≡ lines p k
  unfolding lines_at lines
  lines_at_plan zero = refl
  lines_at_plan (suc k) = ap₂ ◌++◌ (lines_at_plan k) (line_at_plan k)

-- ---- by the arrays of a state of the plan

module _ (p : Plan) (v : Valid p) (r : Run) (taken : ℕ) (s : Sampler) (e : s ≡ made p r taken) where
  pub made_arrays : Arrays s.family s.axes s.bases s.directions
  unfolding made
  made_arrays = rw e (arrays_of p v)

  pub made_axes : s.axes ≡ axis_count p
  unfolding made
  made_axes = rw e refl

  pub made_lines : (k : ℕ) → lines_at s.family s.axes s.bases s.directions k ≡ lines p k
  unfolding made
  made_lines k = rw e (lines_at_plan p v k)
