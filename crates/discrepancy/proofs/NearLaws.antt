-- A count that lies within E of a fraction X / D, over whole numbers: such counts add up, and the digits of a cut join. Assumes nothing.
use mathlib.Core.Path.{◌≡◌, ap}
use mathlib.Core.Logic.{◌⊎◌, inl, inr}
use Prim.Native.Nat.{ℕ, ◌+◌, ◌*◌, ◌≤◌, ◌<◌}
use native.Mathlib.Nat.{mul-le-mul_right, lt_of_mul-lt-mul_left}
use native.Mathlib.Omega.{arith}

-- S × D and X differ by at most E × D, and with the margin 1 by less.
pub record Within (margin D S X E : ℕ) : Type 0 where
  pub over : S * D + margin ≤ X + E * D
  pub short : X + margin ≤ S * D + E * D

pub within_none : (D : ℕ) → Within 0 D 0 0 0
within_none D = record { over = omega arith; short = omega arith }

pub within_add : {D S X E S' X' E' : ℕ} → Within 0 D S X E → Within 1 D S' X' E' → Within 0 D (S + S') (X + X') (E + E')
within_add w w' = record { over = omega (arith, w, w'); short = omega (arith, w, w') }

-- the same fraction with both numbers times q, and a greater error
pub within_more : (q m : ℕ) {D S X E : ℕ} → 0 < q → Within 1 D S X E → Within 1 (D * q) S (X * q) (E * (m + 1))
within_more q m h w = record { over = omega (arith, mul-le-mul_right q w.over); short = omega (arith, mul-le-mul_right q w.short) }

-- a count of one at most, and a fraction below one that is above none where the count is one
pub within_few : {S X D E : ℕ} → X < D → 0 < E → (S ≡ 0) ⊎ ((S ≡ 1) × (0 < X)) → Within 1 D S X E
within_few {S} {X} {D} {E} h e = go
  where
    room : 1 * D ≤ E * D
    room = mul-le-mul_right D e

    go : (S ≡ 0) ⊎ ((S ≡ 1) × (0 < X)) → Within 1 D S X E
    go (inl z) = rw z (record { over = omega (arith, room); short = omega (arith, room) })
    go (inr w) = rw w.0 (record { over = omega (arith, room, w.1); short = omega (arith, room) })

-- A cut u / q whose next digit in base b is c, with the rest v / q: c whole parts of the fraction X / D, and one that the rest cuts.
pub within_join : (b q c v u D X F E E' : ℕ) {S S' : ℕ} → u * b ≡ c * q + v → F + E ≤ E'
    → Within 0 (b * D) S (c * X) F → Within 1 (b * D * q) S' (X * v) E → Within 1 (D * q) (S + S') (X * u) E'
within_join b q c v u D X F E E' {S} {S'} e h w w' = record { over = omega (arith, over); short = omega (arith, short) }
  where
    volume : u * b * X ≡ (c * q + v) * X
    volume = ap (λ (x : ℕ). x * X) e

    errors : (F + E) * (b * D * q) ≤ E' * (b * D * q)
    errors = mul-le-mul_right (b * D * q) h

    over : (S + S') * (D * q) < X * u + E' * (D * q)
    over = lt_of_mul-lt-mul_left b (omega (arith, mul-le-mul_right q w.over, w'.over, volume, errors))

    short : X * u < (S + S') * (D * q) + E' * (D * q)
    short = lt_of_mul-lt-mul_left b (omega (arith, mul-le-mul_right q w.short, w'.short, volume, errors))
