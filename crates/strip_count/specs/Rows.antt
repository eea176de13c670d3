-- A run's axes in rows and a table of images, in some order of the axes. Definitions only.
use Rattle.std.specs.Prelude.{◌≡◌, List, ℕ, ◌+◌, ◌*◌, ◌^◌, ◌<◌, get_or}
use Rattle.permutation.specs.Families.{image_of}
use Rattle.window.specs.Counting.{cut_at}
use Rattle.strips.specs.Classes.{base_in, start_in, l_in, u_in, q_in, image_from}

-- row i is a base, a start, and the ends 0 and u / q
pub record RowAt (rows : List ℕ) (i b n u q : ℕ) : Type 0 where
  pub base : base_in rows i ≡ b
  pub start : start_in rows i ≡ n
  pub lower : l_in rows i ≡ 0
  pub upper : u_in rows i ≡ u
  pub whole : q_in rows i ≡ q

-- it was written, and the rows before it stay
pub record RowPut (i b n u q : ℕ) (old new : List ℕ) : Type 0 where
  pub row : RowAt new i b n u q
  pub before : (j : ℕ) → j < 5 * i → get_or new j 0 ≡ get_or old j 0

-- the first s rows are those of the axes in the given order
pub record Rowed (bases starts w order rows : List ℕ) (s : ℕ) : Type 0 where
  pub at : (i : ℕ) → i < s → let a = get_or order i 0 in RowAt rows i (get_or bases a 0) (get_or starts a 0) (cut_at w a).u (cut_at w a).q

-- the table holds the images of the digits of s axes, 256 entries an axis, in the given order
pub record Filled (family : ℕ) (bases order l : List ℕ) (s : ℕ) : Type 0 where
  pub at : (i d : ℕ) → i < s → d < get_or bases (get_or order i 0) 0 → image_from l (256 * i) d ≡ image_of family (get_or bases (get_or order i 0) 0) d

-- what a run of k steps asks of its stride and its starts
pub record Reached (starts : List ℕ) (s r k : ℕ) : Type 0 where
  pub low : (t : ℕ) → t < k → r * t < 2 ^ 32
  pub index : (i t : ℕ) → i < s → t < k → get_or starts i 0 + r * t < 2 ^ 32
