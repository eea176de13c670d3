-- What 02's K3 exchanges: before it, a step or block with no point left answered 12 even where the buffer was too short (01-scope.md, "When a call
-- is turned down"). That order is kept for the comparison alone. Definitions only.
use Rattle.std.specs.Prelude.{◌≡◌, Bool, true, ◌↔◌, List, [], ◌∷◌, ℕ, ◌≤◌, ◌<◌, length}
use Rattle.plan.specs.Order.{Condition, ◌when◌}
use Rattle.state.specs.State.{genuine}
use Rattle.state.specs.declared.Sampler.{Sampler}
use Rattle.calls.specs.Calls.{foreign, spent, no_point_room}

abbrev pub former_order : Bool → Bool → Bool → List Condition
former_order is_foreign is_spent no_room = 15 when is_foreign ∷ 12 when is_spent ∷ 13 when no_room ∷ []

abbrev pub former_refusals : Sampler → List ℕ → List Condition
former_refusals s buf = former_order (foreign s) (spent s) (no_point_room s buf)

-- the calls whose answer changes: a genuine state, no point left, and a buffer shorter than one point
abbrev pub SpentAndShort : Sampler → List ℕ → Type 0
SpentAndShort s buf = (genuine s ≡ true) × (s.count ≤ s.taken) × (length buf < s.axes)

-- An answer changes exactly there, from the one to the other.
pub record Exchanged {A : Type 0} (There : Type 0) (from to : A) (former answer : A) : Type 0 where
  pub was : There → former ≡ from
  pub is : There → answer ≡ to
  pub same : (There → ⊥) → former ≡ answer
  pub exactly : (former ≡ answer → ⊥) ↔ There
