-- Rows in parts, each as long as a table: a part starts where the table does, at a multiple of its size, or where the rows do. And the table: the
-- first points of an axis, which with one number give every later run of as many. Definitions only.
use Rattle.std.specs.Prelude.{◌≡◌, List, ℕ, ◌+◌, ◌-◌, ◌*◌, ◌%◌, ◌^◌, ◌<◌, ◌≤◌, get_or}
use Rattle.numbers.specs.Listed.{Begins}

-- row i, of index x, stands at this place of a table of so many entries, and its part of the rows up to hi ends before row end
pub record Tiled (x size i hi place end : ℕ) : Type 0 where
  pub remainder : place ≡ x % size
  pub back : place ≤ x
  pub further : i < end
  pub in_rows : end ≤ hi
  pub in_table : end - i + place ≤ size

-- n is a power of b
pub record Power (b n : ℕ) : Type 0 where
  pub exponent : ℕ
  pub is : n ≡ b ^ exponent

-- t begins with the first points g 0, g 1, .. of an axis, and their number is a power of its base b
pub record Table (g : ℕ → ℕ) (b size : ℕ) (t : List ℕ) : Type 0 where
  pub power : Power b size
  pub starts : Begins g size t

-- the point of q × b^e + r, with r below b^e, is that of q × b^e and that of r, put together by op
pub record Splits (op : ℕ → ℕ → ℕ) (g : ℕ → ℕ) (b : ℕ) : Type 0 where
  pub at : (e q r : ℕ) → r < b ^ e → g (q * b ^ e + r) ≡ op (g (q * b ^ e)) (g r)

-- what a part from row lo on has: base and the table's entry, from entry r on, put together by op
unfoldable pub tile_of : (ℕ → ℕ → ℕ) → ℕ → List ℕ → ℕ → ℕ → ℕ → ℕ
tile_of op base t lo r i = op base (get_or t (i - lo + r) 0)
