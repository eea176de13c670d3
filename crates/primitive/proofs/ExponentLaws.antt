-- The five exponents: 2^d - 1 in front of the four quotients. Assumes nothing.
use mathlib.Core.Path.{◌≡◌, refl, ap, ◌∙◌}
use mathlib.Core.List.{List, [], ◌∷◌}
use Prim.Native.Nat.{ℕ, zero, suc, ◌-◌, ◌^◌, ◌<◌}
use native.Mathlib.Omega.{arith}
use lib.ListN.{get_or}
use lib.Pow.{pow_pos}
use Rattle.numbers.specs.Listed.{Begins}
use Rattle.numbers.proofs.ListedLaws.{begins_as}
use Rattle.binary.specs.Power.{power_of_x}
use Rattle.primitive.specs.Powers.{power_at}

pub five_below : (d a b₀ b₁ b₂ b₃ : ℕ) → a ≡ 2 ^ d - 1 → b₀ < 2 ^ d - 1 → b₁ < 2 ^ d - 1 → b₂ < 2 ^ d - 1 → b₃ < 2 ^ d - 1
    → (k : ℕ) → k < 5 → get_or (a ∷ b₀ ∷ b₁ ∷ b₂ ∷ b₃ ∷ []) k 0 < 2 ^ d
five_below d a b₀ b₁ b₂ b₃ whole h₀ h₁ h₂ h₃ zero h = omega (arith, pow_pos d)
five_below d a b₀ b₁ b₂ b₃ whole h₀ h₁ h₂ h₃ (suc zero) h = omega arith
five_below d a b₀ b₁ b₂ b₃ whole h₀ h₁ h₂ h₃ (suc (suc zero)) h = omega arith
five_below d a b₀ b₁ b₂ b₃ whole h₀ h₁ h₂ h₃ (suc (suc (suc zero))) h = omega arith
five_below d a b₀ b₁ b₂ b₃ whole h₀ h₁ h₂ h₃ (suc (suc (suc (suc zero)))) h = omega arith
five_below d a b₀ b₁ b₂ b₃ whole h₀ h₁ h₂ h₃ (suc (suc (suc (suc (suc k))))) h = absurd (omega arith)

-- a and the four numbers of a list
abbrev five : ℕ → List ℕ → List ℕ
five a q = a ∷ get_or q 0 0 ∷ get_or q 1 0 ∷ get_or q 2 0 ∷ get_or q 3 0 ∷ []

five_at : (a : ℕ) (q : List ℕ) (k : ℕ) → k < 5 → get_or (five a q) k 0 ≡ get_or (a ∷ q) k 0
five_at a q zero h = refl
five_at a q (suc zero) h = refl
five_at a q (suc (suc zero)) h = refl
five_at a q (suc (suc (suc zero))) h = refl
five_at a q (suc (suc (suc (suc zero)))) h = refl
five_at a q (suc (suc (suc (suc (suc k))))) h = absurd (omega arith)

pub five_powers : (d p a : ℕ) (q r : List ℕ) → a ≡ 2 ^ d - 1 → Begins (power_at d p (five a q)) 5 r → Begins (power_at d p ((2 ^ d - 1) ∷ q)) 5 r
unfolding power_at
five_powers d p a q r whole b =
    begins_as b (power_at d p ((2 ^ d - 1) ∷ q)) (λ k h. ap (power_of_x (2 ^ d) p) (five_at a q k h ∙ ap (λ (n : ℕ). get_or (n ∷ q) k 0) whole))
