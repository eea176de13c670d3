-- `columns::tile_at` meets its contract: a remainder is below its divisor. Assumes nothing.
use mathlib.Core.Path.{refl}
use Prim.Native.Nat.{◌%◌, ◌≤◌, ◌<◌}
use native.Mathlib.Nat.{mod-lt, mod-le}
use native.Mathlib.Omega.{arith}
use Rattle.columns.proofs.tile_at.Goals as goal
use Rattle.columns.proofs.tile_at.Goals.{Start}

place : (c : Start) → let a = c.args in (a.x % a.size < a.size) × (a.x % a.size ≤ a.x)
place c = let a = c.args in (mod-lt a.x (omega arith), mod-le a.x a.size)

pub overflow_sub-size : goal.overflow_sub-size
overflow_sub-size c = omega (arith, place c)

pub returns : goal.returns
returns c =
    let p = place (goal.at.returns c).Start in
    record { remainder = refl; back = p.1; further = omega (arith, p); in_rows = omega arith; in_table = omega (arith, p) }
