-- The tests of an axis, word by word. Assumes nothing.
use mathlib.Core.Path.{◌≡◌, refl, sym, ap, ap₂, ◌∙◌}
use mathlib.Core.Bool.{Bool, true}
use mathlib.Core.Logic.{◌↔◌}
use mathlib.Core.List.{List}
use Prim.Native.Nat.{ℕ, zero, suc, ◌+◌, ◌-◌, ◌*◌, ◌/◌, ◌%◌, ◌^◌, ◌≤◌, ◌<◌}
use native.Mathlib.Omega.{arith}
use native.Mathlib.Numerals.{add-one}
use native.Mathlib.Nat.{mul-le-mul_right, one-mul, mod-eq_of_lt, div-mul-le_self}
use borrow.Author.Count.{below_more}
use borrow.Author.Tests.{eqb-true, eq-eqb}
use lib.Dec.{eqb}
use lib.ListN.{get_or}
use lib.Pow.{shl_exact}
use lib.Bits.{bit_xor, bit_and, and_mask, and_le_r}
use Rattle.binary.specs.Gf2.{times}
use Rattle.binary.specs.Polynomial.{degree_of, is_primitive}
use Rattle.binary.proofs.CombinationLaws.{times_product}
use Rattle.binary.proofs.PolynomialLaws.{is_primitive_iff}
use Rattle.fitting.specs.Fits.{v_terms, v_rule, FitWord, FitFirst, FitRest, FitPolynomial}
use Rattle.fitting.proofs.AxisLaws.{degree_is}

-- ---- the lowest digit, and a product with it

pub digit : (g : ℕ) → bit_and g 1 ≡ g % 2
digit g = and_mask g 1

pub digit_times_lt : (g v : ℕ) → v < 2 ^ 64 → bit_and g 1 * v < 2 ^ 64
digit_times_lt g v h = omega (arith, mul-le-mul_right v (and_le_r g 1))

-- ---- a given word

pub given_is : (j w : ℕ) → bit_and (w / 2 ^ (31 - j)) 1 ≡ 1 → w < 2 ^ 32
    → (eqb (w / 2 ^ (31 - j) * 2 ^ (31 - j) % 2 ^ 64) w ≡ true) ↔ FitWord j w
given_is j w o l =
    let e : w / 2 ^ (31 - j) * 2 ^ (31 - j) % 2 ^ 64 ≡ w / 2 ^ (31 - j) * 2 ^ (31 - j) = mod-eq_of_lt (omega (arith, div-mul-le_self w (2 ^ (31 - j)))) in (
      λ t. record { odd = sym (digit (w / 2 ^ (31 - j))) ∙ o; low = l; back = sym e ∙ eqb-true _ w t },
      λ f. eq-eqb _ w (e ∙ f.back),
    )

pub not_odd : {j w : ℕ} → (bit_and (w / 2 ^ (31 - j)) 1 ≡ 1 → ⊥) → FitWord j w → ⊥
not_odd {j} {w} o f = o (digit (w / 2 ^ (31 - j)) ∙ f.odd)

pub first_none : (v : List ℕ) → FitFirst v 0
first_none v = record { each = λ j h. absurd (omega arith) }

pub first_more : {v : List ℕ} {n : ℕ} → FitFirst v n → FitWord n (get_or v n 0) → FitFirst v (n + 1)
first_more {v} {n} f w = record { each = below_more (λ (j : ℕ). FitWord j (get_or v j 0)) n f.each w }

-- ---- the recurrence

pub terms_next : (d p : ℕ) (v : List ℕ) (i k x : ℕ) → x ≡ v_terms d p v i k
    → bit_xor x (bit_and (p / 2 ^ (d - (k + 1))) 1 * get_or v (i - (k + 1)) 0) ≡ v_terms d p v i (k + 1)
unfolding v_terms
terms_next d p v i k x e =
    let g = p / 2 ^ (d - suc k) in
    let t : bit_and g 1 * get_or v (i - suc k) 0 ≡ times (g % 2) (get_or v (i - suc k) 0) =
    ap (λ (c : ℕ). c * get_or v (i - suc k) 0) (digit g) ∙ sym (times_product (g % 2) (get_or v (i - suc k) 0) (omega arith)) in
    rw add-one (ap₂ bit_xor e t)

pub rule_terms : (d p : ℕ) (v : List ℕ) (i : ℕ) → (d ≡ 0 → ⊥) → v_terms d p v i d ≡ v_rule d p v i
unfolding v_rule
rule_terms zero p v i h = absurd (h refl)
rule_terms (suc d) p v i h = refl

rule_none : (d p : ℕ) (v : List ℕ) (i : ℕ) → d ≡ 0 → 2 ^ (31 - i) ≡ v_rule d p v i
unfolding v_rule
rule_none d p v i e = ap (λ (x : ℕ). v_rule x p v i) (sym e)

-- the code's shift
pub rule_shift : (d p : ℕ) (v : List ℕ) (i : ℕ) → d ≡ 0 → 1 * 2 ^ (31 - i) % 2 ^ 64 ≡ v_rule d p v i
rule_shift d p v i e = shl_exact 1 (31 - i) 64 (omega arith) (omega arith) ∙ one-mul (2 ^ (31 - i)) ∙ rule_none d p v i e

pub rest_none : (d p : ℕ) (v : List ℕ) → FitRest d p v d
rest_none d p v = record { each = λ j h l. absurd (omega arith) }

pub rest_more : {d p : ℕ} {v : List ℕ} {n : ℕ} → FitRest d p v n → get_or v n 0 ≡ v_rule d p v n → FitRest d p v (n + 1)
rest_more {d} {p} {v} {n} f e =
    record { each = λ j h l. below_more (λ (j : ℕ). d ≤ j → get_or v j 0 ≡ v_rule d p v j) n (λ j l h. f.each j h l) (λ h. e) j l h }

-- ---- a polynomial

pub polynomial_none : (p : ℕ) → p < 2 ^ 13 → p % 2 ≡ 1 → degree_of p ≡ 0 → FitPolynomial p
polynomial_none p h o e = record { high = h; constant = o; primitive = λ l. absurd (omega arith) }

pub polynomial_is : (p : ℕ) {r : Bool} → p < 2 ^ 13 → p % 2 ≡ 1 → 1 ≤ degree_of p → r ≡ is_primitive (degree_of p) p → (r ≡ true) ↔ FitPolynomial p
polynomial_is p h o l e =
    let w = is_primitive_iff (degree_of p) p l (degree_is p (omega arith)) in (
      λ t. record { high = h; constant = o; primitive = λ l. w.0 (sym e ∙ t) },
      λ f. e ∙ w.1 (f.primitive l),
    )
