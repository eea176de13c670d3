-- A table of first points: it has one at least, and with one number it gives every later run of as many, on any axis whose points split. Assumes
-- nothing.
use mathlib.Core.Path.{◌≡◌, sym, ap, ap₂, ◌∙◌}
use mathlib.Core.List.{List}
use Prim.Native.Nat.{ℕ, ◌+◌, ◌-◌, ◌*◌, ◌/◌, ◌%◌, ◌^◌, ◌<◌, ◌≤◌}
use native.Mathlib.Nat.{div-add-mod'}
use native.Mathlib.Omega.{arith}
use lib.ListN.{get_or}
use Rattle.numbers.proofs.DigitLaws.{pow_pos}
use Rattle.columns.specs.Tiles.{Tiled, Table, Splits, tile_of}

module _ {g : ℕ → ℕ} {b size : ℕ} {t : List ℕ} (a : Table g b size t) where
  pub table_pos : 0 < b → 0 < size
  table_pos pos = omega (arith, a.power.is, pow_pos b a.power.exponent pos)

  module _ {op : ℕ → ℕ → ℕ} (s : Splits op g b) where
    tile : (x k : ℕ) → k + x % size < size → op (g (x - x % size)) (get_or t (k + x % size) 0) ≡ g (x + k)
    tile x k h =
        ap₂ (λ (y z : ℕ). op (g y) z) start (a.starts.at (k + x % size) h)
        ∙ sym (s.at a.power.exponent (x / size) (k + x % size) (omega (arith, a.power.is)))
        ∙ ap g whole
      where
        start : x - x % size ≡ x / size * b ^ a.power.exponent
        start = omega (arith, div-add-mod' x size, ap (λ (y : ℕ). x / size * y) a.power.is)

        whole : x / size * b ^ a.power.exponent + (k + x % size) ≡ x + k
        whole = omega (arith, div-add-mod' x size, ap (λ (y : ℕ). x / size * y) a.power.is)

    -- a part of the rows, row 0 being index n, is a run of the table
    pub tile_run : (n : ℕ) {lo hi r end base : ℕ} → Tiled (n + lo) size lo hi r end → base ≡ g (n + lo - r) → (k : ℕ) → lo ≤ k → k < end
        → tile_of op base t lo r k ≡ g (n + k)
    unfolding tile_of
    tile_run n {lo} {hi} {r} {end} {base} p e k h q =
        rw (e, p.remainder) (tile (n + lo) (k - lo) (omega (arith, p)) ∙ ap g {x = n + lo + (k - lo)} {y = n + k} (omega arith))
