-- One round more. Assumes nothing.
use mathlib.Core.Path.{◌≡◌, refl, ap, ◌∙◌}
use Prim.Native.Nat.{ℕ, ◌+◌}
use native.Mathlib.Numerals.{add-one}
use Rattle.bench_calls.specs.Rounds.{rounds}

module _ {A : Type 0} (round : ℕ → A → A) (a : A) where
  pub rounds_none : a ≡ rounds round a 0
  unfolding rounds
  rounds_none = refl

  pub rounds_next : (i : ℕ) (x y : A) → x ≡ rounds round a i → y ≡ round i x → y ≡ rounds round a (i + 1)
  unfolding rounds
  rounds_next i x y e f = rw add-one (f ∙ ap (round i) e)
