-- A run's steps in classes. A class is the steps t + m × i, i below its size k; on the axis that is being cut it reads the indexes x + r × i
-- against the rests v / q and u / q of the axis's ends. An end that binds no more has the rest 0 or q. Definitions only.
use Rattle.std.specs.Prelude.{◌≡◌, Bool, cond, ◌&&◌, List, ℕ, ◌+◌, ◌-◌, ◌*◌, ◌/◌, ◌%◌, ◌^◌, ◌<◌, ◌≤◌, ltb, length, get_or}
use Rattle.numbers.specs.Digits.{sum}
use Rattle.numbers.specs.Count.{count}
use Rattle.numbers.specs.Cut.{below_cut}
use Rattle.numbers.specs.Depth.{denominator}
use Rattle.halton.specs.Axis.{numerator}
use Rattle.strips.specs.Ends.{within_cut, EndAxis, inside_ends, halton_ends}

-- how many of the numbers i, i + b, i + 2 b and so on are below k, for i below b
unfoldable pub class_size : ℕ → ℕ → ℕ → ℕ
class_size b k i = (k + (b - 1 - i)) / b

-- how many of them pass the test
unfoldable pub class_count : (ℕ → Bool) → ℕ → ℕ → ℕ → ℕ
class_count p b k i = count (λ j. p (i + b * j)) (class_size b k i)

-- the fraction of index n in base b, its digits replaced by σ, lies below u / q
unfoldable pub below_rest : (ℕ → ℕ) → ℕ → ℕ → ℕ → ℕ → Bool
below_rest σ b q u n = below_cut (numerator σ b n) (denominator b) u q

-- it lies within v / q and u / q
unfoldable pub within_rest : (ℕ → ℕ) → ℕ → ℕ → ℕ → ℕ → ℕ → Bool
within_rest σ b q v u n = within_cut (numerator σ b n) (denominator b) v u q

-- What is left of an end over q, whose own digit is c with the given rest, behind the digit d: all of it is still above a smaller digit,
-- nothing above a greater one, and its rest behind its own.
unfoldable pub behind : ℕ → ℕ → ℕ → ℕ → ℕ
behind q d c rest = cond (ltb d c) q (cond (ltb c d) 0 rest)

-- the step o is inside on the first s axes, and the index x within the rests of the ends on axis s
unfoldable pub passes : (ℕ → EndAxis) → ℕ → ℕ → ℕ → ℕ → ℕ → Bool
passes ax s v u x o = within_rest (ax s).axis.image (ax s).axis.base (ax s).axis.q v u x && inside_ends ax s o

-- step number i of the class, t + m × i, is inside on the first s axes
unfoldable pub inside_along : (ℕ → EndAxis) → ℕ → ℕ → ℕ → ℕ → Bool
inside_along ax s t m i = inside_ends ax s (t + m * i)

-- it is, and on axis s, where it reads x + r × i, it is within the rests of the ends
unfoldable pub in_class : (ℕ → EndAxis) → ℕ → ℕ → ℕ → ℕ → ℕ → ℕ → ℕ → ℕ → Bool
in_class ax s v u x r t m i = passes ax s v u (x + r * i) (t + m * i)

-- ---- axes held in arrays: a table of images, 256 entries an axis, and a row of five numbers an axis

abbrev pub base_in : List ℕ → ℕ → ℕ
base_in rows i = get_or rows (5 * i) 0

abbrev pub start_in : List ℕ → ℕ → ℕ
start_in rows i = get_or rows (5 * i + 1) 0

-- its ends l / q and u / q
abbrev pub l_in : List ℕ → ℕ → ℕ
l_in rows i = get_or rows (5 * i + 2) 0

abbrev pub u_in : List ℕ → ℕ → ℕ
u_in rows i = get_or rows (5 * i + 3) 0

abbrev pub q_in : List ℕ → ℕ → ℕ
q_in rows i = get_or rows (5 * i + 4) 0

-- what a table of images says of a digit, from the place `at` on
unfoldable pub image_from : List ℕ → ℕ → ℕ → ℕ
image_from l at d = get_or l (at + d) 0

-- the axes: at step o each reads its start + o
unfoldable pub table_axes : List ℕ → List ℕ → ℕ → EndAxis
table_axes l rows = halton_ends (λ i. image_from l (256 * i)) (base_in rows) (start_in rows) 1 (l_in rows) (u_in rows) (q_in rows)

-- ---- what is asked

-- of a table at one axis: digits of base b, 0 first
pub record Digits (l : List ℕ) (at b : ℕ) : Type 0 where
  pub long : at + b ≤ length l
  pub low : 2 ≤ b
  pub high : b ≤ 256
  pub below : (d : ℕ) → d < b → image_from l at d < b
  pub first : image_from l at 0 ≡ 0

-- of the ends of axis i: each number is at most 2^24, and q is not 0
pub record EndsAt (rows : List ℕ) (i : ℕ) : Type 0 where
  pub l_small : l_in rows i ≤ 2 ^ 24
  pub u_small : u_in rows i ≤ 2 ^ 24
  pub q_pos : 1 ≤ q_in rows i
  pub q_small : q_in rows i ≤ 2 ^ 24

-- of the arrays at s axes
pub record Held (l rows : List ℕ) (s : ℕ) : Type 0 where
  pub long : 5 * s ≤ length rows
  pub ends : (i : ℕ) → i < s → EndsAt rows i
  pub digits : (i : ℕ) → i < s → Digits l (256 * i) (base_in rows i)

-- of a step o: every index that s axes read at it is below 2^32
pub record Step (rows : List ℕ) (s o : ℕ) : Type 0 where
  pub index : (i : ℕ) → i < s → start_in rows i + o < 2 ^ 32

-- of a class of k steps
pub record Steps (rows : List ℕ) (s t m k : ℕ) : Type 0 where
  pub few : k ≤ 2 ^ 32
  pub low : (i : ℕ) → i < k → t + m * i < 2 ^ 32
  pub at : (i : ℕ) → i < k → Step rows s (t + m * i)

-- and every index that the axis being cut has left
pub record Reads (x r k : ℕ) : Type 0 where
  pub reach : (i : ℕ) → i < k → x + r * i < 2 ^ 32

-- ---- on the way through the classes that a class of k steps splits into

-- i of them are counted, and e is the digit that the next one reads
pub record Split (l rows : List ℕ) (s v u x r t m k : ℕ) (e n i : ℕ) : Type 0 where
  pub within : i ≤ base_in rows s
  pub digit : e ≡ (x + r * i) % base_in rows s
  pub made : n ≡ sum (class_count (in_class (table_axes l rows) s v u x r t m) (base_in rows s) k) i
