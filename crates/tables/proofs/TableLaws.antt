-- Tables of first points: how they grow, and how every later run of points reads from them. Assumes nothing.
use mathlib.Core.Path.{◌≡◌, sym, ap, ◌∙◌, subst}
use mathlib.Core.Logic.{⊎_elim}
use mathlib.Core.List.{List}
use Prim.Native.Nat.{ℕ, ◌+◌, ◌-◌, ◌*◌, ◌/◌, ◌^◌, ◌<◌, ◌≤◌}
use native.Mathlib.Nat.{one-mul, mul-one, mul_comm, add-mul, pow-zero, mul-le-mul_right}
use native.Mathlib.Omega.{arith}
use lib.ListN.{get_or}
use Rattle.numbers.specs.Depth.{depth, denominator}
use Rattle.numbers.specs.Listed.{Begins}
use Rattle.numbers.proofs.Cases.{lt_or_ge}
use Rattle.numbers.proofs.DigitLaws.{pow_one_more, pow_up_to}
use Rattle.numbers.proofs.DepthLaws.{depth_reaches, denominator_lt}
use Rattle.halton.specs.Axis.{numerator}
use Rattle.halton.specs.Images.{image_in, DigitMap}
use Rattle.halton.proofs.AxisLaws.{numerator_below}
use Rattle.columns.specs.Rows.{Column}
use Rattle.columns.specs.Tiles.{Tiled, Table, tile_of}
use Rattle.columns.proofs.TileLaws.{tile_run}
use Rattle.tables.specs.Tables.{tabled}
use Rattle.tables.proofs.SplitLaws.{numerator_splits, numerator_digit, weight_next}

-- an axis over any map σ of the digits to digits
module _ {b : ℕ} {σ : ℕ → ℕ} (a : DigitMap b σ) (big : 2 ≤ b) where
  -- every point of the axis is below the denominator
  pub point_below : b ≤ 256 → (n : ℕ) → numerator σ b n < 2 ^ 40
  point_below u n = omega (arith, numerator_below a (omega arith) n, denominator_lt b big u)

  module _ (e size w d : ℕ) (is : size ≡ b ^ e) (weight : w * b * size ≡ denominator b) (digit : d < b) where
    -- the first point of the next part
    pub part_first : σ d * w ≡ numerator σ b (d * size)
    part_first =
        sym (numerator_digit σ b a.zero_first big e d w digit (ap (λ (x : ℕ). w * b * x) (sym is) ∙ weight))
        ∙ ap (λ (x : ℕ). numerator σ b (d * x)) (sym is)

    -- any point of it
    pub part_any : (r : ℕ) → r < size → numerator σ b (d * size + r) ≡ σ d * w + numerator σ b r
    part_any r h =
        ap (λ (x : ℕ). numerator σ b (d * x + r)) is
        ∙ (numerator_splits σ b a.zero_first big).at e d r (omega arith)
        ∙ ap (λ (x : ℕ). numerator σ b (d * x) + numerator σ b r) (sym is)
        ∙ ap (λ (x : ℕ). x + numerator σ b r) (sym part_first)

    -- one part more
    pub part_more : {t new : List ℕ} → Begins (numerator σ b) (d * size) t → 1 ≤ d → Column (tile_of ◌+◌ (σ d * w) t 0 0) 0 size 1 (d * size) t new → Begins (numerator σ b) ((d + 1) * size) new
    unfolding tile_of
    part_more {t} {new} s one c = record {
      at = λ r h. ⊎_elim (λ q. c.kept r (λ i u v k. omega arith) ∙ s.at r q) (λ q. here r (r - d * size) (omega arith) (omega (arith, add-mul d 1 size))) (lt_or_ge r (d * size));
    }
      where
        here : (r i : ℕ) → r ≡ d * size + i → i < size → get_or new r 0 ≡ numerator σ b r
        here r i k v =
            ap (λ (x : ℕ). get_or new x 0) {x = r} {y = i * 1 + d * size} (omega arith)
            ∙ c.wrote i (omega arith) v
            ∙ ap (λ (x : ℕ). σ d * w + get_or t x 0) {x = i - 0 + 0} {y = i} (omega arith)
            ∙ ap (λ (x : ℕ). σ d * w + x) (s.at i (omega (arith, mul-le-mul_right {m = 1} {n = d} size one)))
            ∙ sym (part_any i v)
            ∙ ap (numerator σ b) (sym k)

-- the entries of one digit
pub table_first : {g : ℕ → ℕ} {b : ℕ} {t : List ℕ} → Begins g b t → Table g b b t
table_first {g} {b} s = record {
  power = record { exponent = 1; is = sym (pow_one_more b 0 ∙ ap (λ (x : ℕ). x * b) (pow-zero b) ∙ one-mul b) };
  starts = s;
}

-- all parts
pub table_more : {g : ℕ → ℕ} {b size : ℕ} {t new : List ℕ} → Table g b size t → Begins g (b * size) new → Table g b (size * b) new
table_more {g} {b} {size} {t} {new} a s = record {
  power = record { exponent = a.power.exponent + 1; is = ap (λ (x : ℕ). x * b) a.power.is ∙ sym (pow_one_more b a.power.exponent) };
  starts = subst (λ (x : ℕ). Begins g x new) (mul_comm b size) s;
}

-- the image of a digit at the last place's weight is its point
pub first_digit : {b : ℕ} {σ : ℕ → ℕ} → DigitMap b σ → 2 ≤ b → (w d : ℕ) → w * b ≡ denominator b → d < b → σ d * w ≡ numerator σ b d
first_digit {b} {σ} a big w d e h =
    part_first a big 0 1 w d (sym (pow-zero b)) (mul-one (w * b) ∙ e) h ∙ ap (numerator σ b) (mul-one d)

-- a table has a digit to spare
pub table_room : {g : ℕ → ℕ} {b size : ℕ} {t : List ℕ} (a : Table g b size t) → 2 ≤ b → size ≤ 256 → a.power.exponent < depth b
table_room {b = b} a big h =
    ⊎_elim (λ q. q) (λ q. absurd (omega (arith, a.power.is, depth_reaches b big, pow_up_to b (omega arith) q))) (lt_or_ge a.power.exponent (depth b))

pub table_weight : {g : ℕ → ℕ} {b size w : ℕ} {t : List ℕ} → Table g b size t → 2 ≤ b → size ≤ 256 → w * size ≡ denominator b → w / b * b ≡ w
table_weight {g} {b} {size} {w} a big h e =
    weight_next b big a.power.exponent w (ap (λ (x : ℕ). w * x) (sym a.power.is) ∙ e) (table_room a big h)

-- ---- a part of the points is a run of the table

pub entry_below : {σ : ℕ → ℕ} {b size : ℕ} {t : List ℕ} → DigitMap b σ → 2 ≤ b → Table (numerator σ b) b size t → b ≤ 256 → (x : ℕ) → x < size
    → get_or t x 0 < 2 ^ 40
entry_below a big c u x h = rw (c.starts.at x h) (point_below a big u x)

pub tabled_run : {b size : ℕ} {t : List ℕ} (l : List ℕ) → DigitMap b (image_in l) → 2 ≤ b → Table (numerator (image_in l) b) b size t
    → (n : ℕ) {lo hi r end base : ℕ} → Tiled (n + lo) size lo hi r end → base ≡ numerator (image_in l) b (n + lo - r)
    → (k : ℕ) → lo ≤ k → k < end → tile_of ◌+◌ base t lo r k ≡ tabled l b n k
unfolding tabled
tabled_run {b} l a big c n = tile_run c (numerator_splits (image_in l) b a.zero_first big) n
