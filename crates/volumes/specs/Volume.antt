-- The volume of a window, in nine decimals. A window is a list of u and q for each axis in turn. Definitions only.
use Rattle.std.specs.Prelude.{List, ℕ, zero, suc, ◌+◌, ◌*◌, ◌/◌, ◌^◌, get_or}

abbrev pub u_at : List ℕ → ℕ → ℕ
u_at w i = get_or w (2 * i) 0

abbrev pub q_at : List ℕ → ℕ → ℕ
q_at w i = get_or w (2 * i + 1) 0

-- the product of the first s cuts in 10^-18, rounded down after each cut
unfoldable pub finely_to : List ℕ → ℕ → ℕ
finely_to w zero = 10 ^ 18
finely_to w (suc s) = finely_to w s * u_at w s / q_at w s

-- that in billionths, to the nearest, halves up
unfoldable pub volume_of : List ℕ → ℕ → ℕ
volume_of w s = (finely_to w s + 5 * 10 ^ 8) / 10 ^ 9
