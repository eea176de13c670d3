-- A number is given exactly where its condition holds and nothing earlier in the order does; the call succeeds where none holds. Assumes nothing.
use mathlib.Core.Path.{◌≡◌, refl, sym, subst}
use mathlib.Core.Bool.{Bool, true, false, cond}
use mathlib.Core.Logic.{◌↔◌}
use mathlib.Core.List.{List, [], ◌∷◌}
use Prim.Native.Nat.{ℕ, zero, suc}
use native.Mathlib.Omega.{arith}
use Rattle.plan.specs.Order.{Condition, ◌when◌, first_due, Given, here, later, unless_number, unless_due}

given_first : {n : ℕ} {order : List Condition} → Given n order → first_due order ≡ n
unfolding first_due
given_first (here e) = rw e refl
given_first (later e g) = rw e (given_first g)

first_given : (n : ℕ) → (n ≡ 0 → ⊥) → (order : List Condition) → first_due order ≡ n → Given n order
unfolding first_due
first_given n f [] e = absurd (f (sym e))
first_given n f (c ∷ order) e = go c.holds refl e (first_given n f order)
  where
    go : (b : Bool) → c.holds ≡ b → cond b c.number (first_due order) ≡ n → (first_due order ≡ n → Given n order) → Given n (c ∷ order)
    go true h d rest = subst (λ (m : ℕ). Given m (c ∷ order)) d (here h)
    go false h d rest = later h (rest d)

-- The law of every order of refusals.
pub given_iff : (n : ℕ) → (n ≡ 0 → ⊥) → (order : List Condition) → (first_due order ≡ n) ↔ Given n order
given_iff n f order = (first_given n f order, given_first)

-- ---- what a call leaves

module _ {A : Type 0} (order : List Condition) (done kept : A) where
  pub unless_none_lem : first_due order ≡ 0 → unless_due order done kept ≡ done
  unfolding unless_due
  unless_none_lem e = rw e refl

  pub unless_turned : (first_due order ≡ 0 → ⊥) → unless_due order done kept ≡ kept
  unfolding unless_due
  unless_turned f = go (first_due order) f
    where
      go : (n : ℕ) → (n ≡ 0 → ⊥) → unless_number n done kept ≡ kept
      go zero g = absurd (g refl)
      go (suc n) g = refl

-- ---- one number of an order

-- an empty order gives none
pub none_given : (m : ℕ) → (0 ≡ m → ⊥) → first_due [] ≡ m → ⊥
unfolding first_due
none_given m f e = f e

module _ (n : ℕ) (b : Bool) (order : List Condition) where
  -- where none is due, the first is not, and none of the rest
  pub none_due : first_due (suc n when b ∷ order) ≡ 0 → (b ≡ false) × (first_due order ≡ 0)
  unfolding first_due
  none_due e = go b refl
    where
      go : (t : Bool) → b ≡ t → (b ≡ false) × (first_due order ≡ 0)
      go true h = absurd (omega (arith, rw h at e))
      go false h = (h, rw h at e)

  -- a number that is not the first's, and is not due among the rest, is not due
  pub other_due : (m : ℕ) → (n ≡ m → ⊥) → (first_due order ≡ m → ⊥) → first_due (n when b ∷ order) ≡ m → ⊥
  unfolding first_due
  other_due m f g e = go b refl
    where
      go : (t : Bool) → b ≡ t → ⊥
      go true h = f (rw h at e)
      go false h = g (rw h at e)

  -- the first is due exactly where its condition holds, if the rest has another number
  pub first_iff : (first_due order ≡ n → ⊥) → (first_due (n when b ∷ order) ≡ n) ↔ (b ≡ true)
  unfolding first_due
  first_iff f = (λ e. go b refl e, λ h. rw h refl)
    where
      go : (t : Bool) → b ≡ t → cond b n (first_due order) ≡ n → b ≡ true
      go true h e = h
      go false h e = absurd (f (rw h at e))
