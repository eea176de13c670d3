-- What it is to permute the digits of a base. Definitions only.
use Rattle.std.specs.Prelude.{◌≡◌, ℕ, ◌<◌}

-- σ is a permutation of the digits 0 to b - 1 that sends 0 to 0: it keeps them below b, and has an inverse there.
pub record Permutes (b : ℕ) (σ : ℕ → ℕ) : Type 0 where
  pub inverse : ℕ → ℕ
  pub below : (k : ℕ) → k < b → σ k < b
  pub inverse_below : (r : ℕ) → r < b → inverse r < b
  pub back : (k : ℕ) → k < b → inverse (σ k) ≡ k
  pub onto : (r : ℕ) → r < b → σ (inverse r) ≡ r
  pub zero_first : σ 0 ≡ 0
