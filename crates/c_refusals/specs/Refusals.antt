-- When a C call on an accepted plan is turned down, in the order of 01-scope.md, "When a call is turned down". Definitions only.
use Rattle.std.specs.Prelude.{Bool, not, List, [], ◌∷◌, ℕ, ◌*◌, ◌^◌, ltb, leb}
use Rattle.plan.specs.Order.{Condition, ◌when◌}
use Rattle.points.specs.Run.{start_in_range}

-- point: 11 (range) by the index, 13 (room) for so many axes
abbrev pub point_refusals : ℕ → ℕ → ℕ → List Condition
point_refusals index s room = 11 when leb (2 ^ 32) index ∷ 13 when ltb room (8 * s) ∷ []

-- window count: 11 (range) by the start and the count, 14 (window) where the bytes are no window, 13 (room) for S and the bound
abbrev pub count_refusals : ℕ → ℕ → Bool → ℕ → List Condition
count_refusals start count is_window room = 11 when not (start_in_range start count) ∷ 14 when not is_window ∷ 13 when ltb room 16 ∷ []
