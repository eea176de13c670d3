-- The order in which a call is turned down (01-scope.md, "When a call is turned down"): each number with its condition, in the paper's order.
-- Definitions only.
use Rattle.std.specs.Prelude.{◌≡◌, Bool, true, false, cond, List, [], ◌∷◌, ℕ, zero, suc}

-- a refusal's number, and whether its condition holds
pub record Condition : Type 0 where
  pub number : ℕ
  pub holds : Bool

infix 70 ◌when◌
abbrev pub ◌when◌ : ℕ → Bool → Condition
n when b = record { number = n; holds = b }

-- the first number whose condition holds, or 0
unfoldable pub first_due : List Condition → ℕ
first_due [] = 0
first_due (c ∷ order) = cond c.holds c.number (first_due order)

-- a number's condition holds and nothing earlier in the order does
pub data Given : ℕ → List Condition → Type 0 where
  here : {n : ℕ} {b : Bool} {order : List Condition} → b ≡ true → Given n (n when b ∷ order)
  later : {n m : ℕ} {b : Bool} {order : List Condition} → b ≡ false → Given n order → Given n (m when b ∷ order)

-- what a call does where no number is due, else what it leaves
abbrev pub unless_number : {A : Type 0} → ℕ → A → A → A
unless_number zero done kept = done
unless_number (suc n) done kept = kept

unfoldable pub unless_due : {A : Type 0} → List Condition → A → A → A
unless_due order done kept = unless_number (first_due order) done kept
