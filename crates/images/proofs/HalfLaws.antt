-- Faure's images of base b out of those of base b / 2: the even rule for an even base, and both rules in one for an odd base. Assumes nothing.
use mathlib.Core.Path.{◌≡◌, sym, ap, ◌∙◌}
use Prim.Native.Nat.{ℕ, ◌+◌, ◌-◌, ◌*◌, ◌/◌, ◌%◌, ◌<◌, ◌≤◌}
use native.Mathlib.Omega.{arith}
use Rattle.permutation.specs.Faure.{close_gap, open_gap, faure}
use Rattle.permutation.proofs.FaureRules.{cond_low, cond_high, odd_aside, faure_odd, even_lower, even_upper}

-- ---- an even base above 2

module _ {b k : ℕ} (big : 4 ≤ b) (even : b % 2 ≡ 0) (below : k < b / 2) where
  pub even_low : 2 * faure (b / 2) k ≡ faure b k
  even_low = sym (even_lower b k (omega arith) even below)

  pub even_high : 2 * faure (b / 2) k + 1 ≡ faure b (b / 2 + k)
  even_high =
      ap (λ (x : ℕ). 2 * faure (b / 2) x + 1) {x = k} {y = b / 2 + k - b / 2} (omega arith)
      ∙ sym (even_upper b (b / 2 + k) (omega arith) even (omega arith))

-- ---- an odd base above 3: base b - 1 lies between

-- a digit off the centre, by its place d in base b - 1
off_centre : (b k d : ℕ) → 2 < b → b % 2 ≡ 1 → (k ≡ b / 2 → ⊥) → close_gap (b / 2) k ≡ d → faure b k ≡ open_gap (b / 2) (faure (b - 1) d)
off_centre b k d l e f g =
    faure_odd b k l e ∙ odd_aside (faure (b - 1)) (b / 2) k f ∙ ap (λ (x : ℕ). open_gap (b / 2) (faure (b - 1) x)) g

module _ {b k : ℕ} (big : 5 ≤ b) (odd : b % 2 ≡ 1) (below : k < b / 2) where
  half : (b - 1) / 2 ≡ b / 2
  half = omega arith

  pub odd_low : open_gap (b / 2) (2 * faure (b / 2) k) ≡ faure b k
  odd_low =
      ap (open_gap (b / 2)) (ap (λ (h : ℕ). 2 * faure h k) (sym half) ∙ sym (even_lower (b - 1) k (omega arith) (omega arith) (omega arith)))
      ∙ sym (off_centre b k k (omega arith) odd (omega arith) (cond_low (b / 2) k k (k - 1) below))

  pub odd_high : open_gap (b / 2) (2 * faure (b / 2) k + 1) ≡ faure b (b / 2 + 1 + k)
  odd_high =
      ap (open_gap (b / 2)) (again (b / 2) (omega arith))
      ∙ sym (off_centre b (b / 2 + 1 + k) (b / 2 + k) (omega arith) odd (omega arith)
      (cond_high (b / 2) (b / 2 + 1 + k) (b / 2 + 1 + k) (b / 2 + 1 + k - 1) (omega arith) ∙ omega arith))
    where
      again : (h : ℕ) → h ≡ (b - 1) / 2 → 2 * faure h k + 1 ≡ faure (b - 1) (h + k)
      again h e =
          rw e
          (ap (λ (x : ℕ). 2 * faure ((b - 1) / 2) x + 1) {x = k} {y = (b - 1) / 2 + k - (b - 1) / 2} (omega arith)
          ∙ sym (even_upper (b - 1) ((b - 1) / 2 + k) (omega arith) (omega arith) (omega arith)))
