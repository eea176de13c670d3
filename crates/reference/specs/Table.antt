-- The reference points R1 to R12 of 01-scope.md and the list that 02's K5 prints, row by row: what is asked, and the answer that the paper prints. The
-- questions are asked of the definitions that the calls' contracts name. Definitions only.
use Rattle.std.specs.Prelude.{List, [], ◌∷◌, ℕ, length}
use Rattle.numbers.specs.Listed.{listed}
use Rattle.permutation.specs.Families.{image_of}
use Rattle.sobol.specs.Directions.{m_list}
use Rattle.plan.specs.Plan.{Axis, Plan, halton, sobol}
use Rattle.plan.specs.Reading.{Reading, refused, accepted, read_plan}
use Rattle.points.specs.Point.{axis_count, numerator_of, denominator_of, slot_of}
use Rattle.points.specs.Run.{one_start}
use Rattle.window.specs.Counting.{inside_count, bound_of, cuts_of}

pub data Question : Type 0 where
  -- numerator and denominator of an index on a plan's first axis
  fraction : Plan → ℕ → Question
  -- the second of the day of an index
  second : Plan → ℕ → Question
  -- the permutation of a family in a base, digit by digit
  permutation : ℕ → ℕ → Question
  -- m_1 to m_n of a Sobol axis
  direction_numbers : Axis → ℕ → Question
  -- what reading these bytes comes to
  reading : List ℕ → Question
  -- S and the bound of a window over the run of the plan with these bytes: the window, the start and N
  window : List ℕ → List ℕ → ℕ → ℕ → Question

pub data Answer : Type 0 where
  numbers : List ℕ → Answer
  read : Reading → Answer

unfoldable pub window_over : Reading → List ℕ → ℕ → ℕ → Answer
window_over (refused n) w start N = read (refused n)
window_over (accepted p) w start N = numbers (inside_count p (cuts_of w (axis_count p)) (one_start p start N) ∷ bound_of p N ∷ [])

unfoldable pub answer_to : Question → Answer
answer_to (fraction p n) = numbers (numerator_of p n 0 ∷ denominator_of p 0 ∷ [])
answer_to (second p n) = numbers (slot_of p 86400 n 0 ∷ [])
answer_to (permutation family b) = numbers (listed (image_of family b) b)
answer_to (direction_numbers x n) = numbers (m_list (length x.ms) x.polynomial x.ms n)
answer_to (reading bytes) = read (read_plan bytes)
answer_to (window bytes w start N) = window_over (read_plan bytes) w start N

pub record Row : Type 0 where
  pub question : Question
  pub answer : Answer

abbrev row : Question → Answer → Row
row q a = record { question = q; answer = a }

-- x^3 + x + 1 with 1, 3, 7
abbrev cubic : Axis
cubic = record { polynomial = 11; ms = 1 ∷ 3 ∷ 7 ∷ [] }

abbrev pub table : List Row
table =
    -- R1
    row (fraction (halton 0 (3 ∷ [])) 17) (numbers (9685512225 ∷ 10460353203 ∷ []))
    -- R2
    ∷ row (fraction (halton 0 (2 ∷ [])) 6) (numbers (1610612736 ∷ 4294967296 ∷ []))
    ∷ row (second (halton 0 (2 ∷ [])) 6) (numbers (32400 ∷ []))
    -- R3
    ∷ row (permutation 1 7) (numbers (0 ∷ 2 ∷ 5 ∷ 3 ∷ 1 ∷ 4 ∷ 6 ∷ []))
    -- R4
    ∷ row (fraction (halton 1 (5 ∷ [])) 6) (numbers (4394531250 ∷ 6103515625 ∷ []))
    -- R5
    ∷ row (direction_numbers cubic 6) (numbers (1 ∷ 3 ∷ 7 ∷ 5 ∷ 7 ∷ 43 ∷ []))
    -- R6
    ∷ row (fraction (sobol (cubic ∷ [])) 4) (numbers (536870912 ∷ 4294967296 ∷ []))
    -- R7
    ∷ row (reading (0x10 ∷ 0x08 ∷ 0x10 ∷ [])) (read (accepted (halton 0 (2 ∷ 3 ∷ []))))
    -- R8
    ∷ row (window (0x10 ∷ 0x08 ∷ 0x10 ∷ []) (1 ∷ 2 ∷ 1 ∷ 3 ∷ []) 0 6) (numbers (1 ∷ 20 ∷ []))
    -- R9
    ∷ row (reading (0x10 ∷ 0x08 ∷ 0x18 ∷ [])) (read (refused 5))
    -- R10
    ∷ row (reading (0x89 ∷ 0x00 ∷ [])) (read (refused 7))
    -- R11
    ∷ row (reading (0x10 ∷ 0x08 ∷ 0x11 ∷ [])) (read (refused 10))
    -- R12, and its C8 as K5 has it
    ∷ row (reading []) (read (refused 1))
    ∷ row (reading (0xC8 ∷ [])) (read (refused 1))
    -- K5
    ∷ row (permutation 3 10) (numbers (0 ∷ 8 ∷ 4 ∷ 2 ∷ 6 ∷ 1 ∷ 9 ∷ 5 ∷ 3 ∷ 7 ∷ []))
    ∷ []
