-- Faure's tables of odd bases, made in place by their halves. Assumes nothing.
use mathlib.Core.Path.{◌≡◌, sym, ap, ◌∙◌}
use mathlib.Core.Logic.{⊎_elim}
use mathlib.Core.List.{List}
use Prim.Native.Nat.{ℕ, ◌+◌, ◌-◌, ◌<◌, ◌≤◌}
use native.Mathlib.Omega.{arith}
use lib.ListN.{length, get_or, set, length-set}
use lib.Seq.{get_or-set_same, get_or-set_other}
use Rattle.numbers.specs.Listed.{Begins}
use Rattle.numbers.proofs.Cases.{lt_or_ge, eq_or_ne}
use Rattle.numbers.proofs.ListedLaws.{begins_more, begins_kept}

-- ---- the halves of a table under τ, made in place from a table of h images under σ. The upper half starts at s.

-- the first k entries of each half are written, and the rest of the first h are still to be read
pub record Halves (σ τ : ℕ → ℕ) (h s k : ℕ) (l : List ℕ) : Type 0 where
  pub low : Begins τ k l
  pub high : (j : ℕ) → j < k → get_or l (s + j) 0 ≡ τ (s + j)
  pub rest : (j : ℕ) → k ≤ j → j < h → get_or l j 0 ≡ σ j

module _ {σ τ : ℕ → ℕ} {h s k : ℕ} {l : List ℕ} (a : Halves σ τ h s k l) where
  -- one entry more in each half
  pub halves_more : {p q x y : ℕ} → p ≡ k → q ≡ s + k → k < h → h ≤ s → s + k < length l → x ≡ τ k → y ≡ τ (s + k) → Halves σ τ h s (k + 1) (set (set l p x) q y)
  halves_more {p} {q} {x} {y} ep eq below up room ex ey = record {
    low = begins_kept first q y (omega arith);
    high = λ j u. ⊎_elim (λ e. back j e) (λ f. behind (s + j) (omega arith) ∙ before (s + j) (omega arith) ∙ a.high j (omega arith)) (eq_or_ne j k);
    rest = λ j u v. behind j (omega arith) ∙ before j (omega arith) ∙ a.rest j (omega arith) v;
  }
    where
      before : (j : ℕ) → (j ≡ p → ⊥) → get_or (set l p x) j 0 ≡ get_or l j 0
      before j f = get_or-set_other l p j x 0 f

      behind : (j : ℕ) → (j ≡ q → ⊥) → get_or (set (set l p x) q y) j 0 ≡ get_or (set l p x) j 0
      behind j f = get_or-set_other (set l p x) q j y 0 f

      first : Begins τ (k + 1) (set l p x)
      first = rw ep (begins_more a.low (omega arith) ex)

      back : (j : ℕ) → j ≡ k → get_or (set (set l p x) q y) (s + j) 0 ≡ τ (s + j)
      back j e = rw (e, ← eq) (get_or-set_same (set l p x) q y 0 (omega (arith, length-set l p x)) ∙ ey ∙ ap τ (sym eq))

  -- what the upper half says of a digit
  upper : (d : ℕ) → s ≤ d → d < s + k → get_or l d 0 ≡ τ d
  upper d p q =
      let e : d ≡ s + (d - s) = omega arith in
      ap (λ (x : ℕ). get_or l x 0) e ∙ a.high (d - s) (omega arith) ∙ ap τ {x = s + (d - s)} {y = d} (omega arith)

  -- halves with one place between them want its entry
  pub halves_centre : {b c v : ℕ} → c ≡ k → s ≡ c + 1 → b ≤ s + k → c < length l → v ≡ τ c → Begins τ b (set l c v)
  halves_centre {b} {c} {v} mid gap all room e = record {
    at = λ d q. ⊎_elim (λ p. here d p) (λ f. get_or-set_other l c d v 0 f ∙ aside d q f) (eq_or_ne d c);
  }
    where
      here : (d : ℕ) → d ≡ c → get_or (set l c v) d 0 ≡ τ d
      here d p = rw p (get_or-set_same l c v 0 room ∙ e)

      aside : (d : ℕ) → d < b → (d ≡ c → ⊥) → get_or l d 0 ≡ τ d
      aside d q f = ⊎_elim (λ p. a.low.at d p) (λ p. upper d (omega arith) (omega arith)) (lt_or_ge d k)
