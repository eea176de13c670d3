-- The reader's answer, a struct of the code, in the terms of the reading; and the plan that arrays hold. Definitions only.
use Rattle.std.specs.Prelude.{◌≡◌, Bool, true, false, List, [], ◌∷◌, ◌++◌, ℕ, zero, suc, ◌*◌, eqb, length, replicate, take, drop, get_or}
use Rattle.numbers.specs.Listed.{padded}
use Rattle.binary.specs.Polynomial.{degree_of}
use Rattle.plan.specs.Plan.{Axis, Plan, halton, sobol, Valid}
use Rattle.plan.specs.Reading.{Reading, refused, accepted}
use Rattle.plan.specs.declared.PlanRead.{PlanRead}

unfoldable pub polynomials_of : List Axis → List ℕ
polynomials_of [] = []
polynomials_of (x ∷ axes) = x.polynomial ∷ polynomials_of axes

-- the m's of each axis, 12 places for each
unfoldable pub ms_of : List Axis → List ℕ
ms_of [] = []
ms_of (x ∷ axes) = padded 12 x.ms ++ ms_of axes

-- a refusal's number and zeros; or 0 and the plan, zeros in the entries that it does not use
unfoldable pub answer_of : Reading → PlanRead
answer_of (refused n) =
    record { code = n; family = 0; axes = 0; bases = replicate 6 0; polynomials = replicate 6 0; ms = replicate 72 0 }
answer_of (accepted (halton family bases)) =
    record { code = 0; family = family; axes = length bases; bases = padded 6 bases; polynomials = replicate 6 0; ms = replicate 72 0 }
answer_of (accepted (sobol axes)) =
    record { code = 0; family = 2; axes = length axes; bases = replicate 6 0; polynomials = padded 6 (polynomials_of axes); ms = padded 72 (ms_of axes) }

-- ---- the plan that arrays hold

abbrev pub axis_at : List ℕ → List ℕ → ℕ → Axis
axis_at ps ms i = record { polynomial = get_or ps i 0; ms = take (degree_of (get_or ps i 0)) (drop (12 * i) ms) }

-- the first s axes
unfoldable pub axes_of : List ℕ → List ℕ → ℕ → List Axis
axes_of ps ms zero = []
axes_of ps ms (suc s) = axes_of ps ms s ++ axis_at ps ms s ∷ []

unfoldable pub plan_by : Bool → ℕ → ℕ → List ℕ → List ℕ → List ℕ → Plan
plan_by true family s bases ps ms = sobol (axes_of ps ms s)
plan_by false family s bases ps ms = halton family (take s bases)

-- of this family and number of axes
unfoldable pub plan_of : ℕ → ℕ → List ℕ → List ℕ → List ℕ → Plan
plan_of family s bases ps ms = plan_by (eqb family 2) family s bases ps ms

-- the plan of an answer
abbrev pub plan_answered : PlanRead → Plan
plan_answered a = plan_of a.family a.axes a.bases a.polynomials a.ms

-- an answer that the reader gives for a plan that it accepts
pub record Accepted (a : PlanRead) : Type 0 where
  pub valid : Valid (plan_answered a)
  pub is : a ≡ answer_of (accepted (plan_answered a))
