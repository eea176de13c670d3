-- A polynomial of degree d is primitive where x^(2^d - 1) is 1 and no power at a quotient is: of an e whose power is 1 the remainder of
-- 2^d - 1 by e is another, so some divisor of 2^d - 1 is one, and with it each of its multiples. Assumes nothing.
use mathlib.Core.Path.{◌≡◌, refl, sym, ap, ◌∙◌}
use mathlib.Core.Bool.{Bool, true, false, not, ◌&&◌, ◌||◌, and-eq-true_iff, false≢true}
use mathlib.Core.List.{List}
use mathlib.Core.Logic.{◌⊎◌, inl, inr, ⊎_elim}
use Prim.Native.Nat.{ℕ, zero, suc, ◌+◌, ◌-◌, ◌*◌, ◌/◌, ◌%◌, ◌^◌, ◌≤◌, ◌<◌}
use native.Mathlib.Omega.{arith}
use native.Mathlib.Nat.{add-zero, le_refl, div-add-mod', mod-lt}
use lib.Dec.{ltb, eqb}
use lib.Arith.{lt-one}
use lib.ListN.{get_or}
use borrow.Author.Tests.{ltb-true, eqb-true, eq-eqb}
use Rattle.binary.specs.Polynomial.{Degree, times_x, is_primitive}
use Rattle.binary.specs.Power.{power_of_x, Quotients}
use Rattle.numbers.proofs.Cases.{lt_or_ge}
use Rattle.numbers.specs.Count.{each}
use Rattle.numbers.proofs.EachLaws.{each_at}
use Rattle.binary.proofs.PolynomialLaws.{divides_of_one, one_of_divides, is_primitive_iff}

-- ---- the order of x

-- after a power that is 1 the powers come again
power_again : (top p a b : ℕ) → power_of_x top p a ≡ 1 → power_of_x top p (a + b) ≡ power_of_x top p b
unfolding power_of_x
power_again top p a zero h = ap (power_of_x top p) (add-zero a) ∙ h
power_again top p a (suc b) h = ap (power_of_x top p) (later a b) ∙ ap (times_x top p) (power_again top p a b h)
  where
    later : (a b : ℕ) → a + suc b ≡ suc (a + b)
    later a b = omega arith

power_multiple : (top p e m b : ℕ) → power_of_x top p e ≡ 1 → power_of_x top p (m * e + b) ≡ power_of_x top p b
power_multiple top p e zero b h = ap (power_of_x top p) (none e b)
  where
    none : (e b : ℕ) → 0 * e + b ≡ b
    none e b = omega arith
power_multiple top p e (suc m) b h = ap (power_of_x top p) (later m e b) ∙ power_again top p e (m * e + b) h ∙ power_multiple top p e m b h
  where
    later : (m e b : ℕ) → suc m * e + b ≡ e + (m * e + b)
    later m e b = omega arith

power_mod : (top p e n : ℕ) → power_of_x top p e ≡ 1 → power_of_x top p n ≡ power_of_x top p (n % e)
power_mod top p e n h = ap (power_of_x top p) (sym (div-add-mod' n e)) ∙ power_multiple top p e (n / e) (n % e) h

not_so : (b : Bool) → (b ≡ true → ⊥) → false ≡ b
not_so true h = absurd (h refl)
not_so false h = refl

or_cases : (a b : Bool) → (a || b) ≡ true → (a ≡ true) ⊎ (b ≡ true)
or_cases true b h = inl refl
or_cases false b h = inr h

implied : (a b : Bool) → (not a || b) ≡ true → a ≡ true → b ≡ true
implied true b h e = h
implied false b h e = absurd (false≢true e)

module _ (d p : ℕ) (hd : 1 ≤ d) (degree : Degree d p) where
  pub not_primitive_whole : (power_of_x (2 ^ d) p (2 ^ d - 1) ≡ 1 → ⊥) → false ≡ is_primitive d p
  not_primitive_whole h =
      not_so (is_primitive d p) (λ t. h (one_of_divides d p hd degree (2 ^ d - 1) ((is_primitive_iff d p hd degree).0 t).divides))

  pub not_primitive_early : (q : ℕ) → 0 < q → q < 2 ^ d - 1 → power_of_x (2 ^ d) p q ≡ 1 → false ≡ is_primitive d p
  not_primitive_early q l h e =
      not_so (is_primitive d p)
      (λ t. let m = ((is_primitive_iff d p hd degree).0 t).least q l (divides_of_one d p hd degree q e) in absurd (omega arith))

  module _ (qs : List ℕ) (quotients : Quotients d qs) (whole : power_of_x (2 ^ d) p (2 ^ d - 1) ≡ 1)
      (none : (k : ℕ) → k < 4 → 0 < get_or qs k 0 → power_of_x (2 ^ d) p (get_or qs k 0) ≡ 1 → ⊥) where
    no_early : (f e : ℕ) → e ≤ f → 0 < e → e < 2 ^ d - 1 → power_of_x (2 ^ d) p e ≡ 1 → ⊥
    unfolding power_of_x
    no_early zero e f l h t = absurd (omega arith)
    no_early (suc f) e k l h t = ⊎_elim divisor (λ z. no_early f ((2 ^ d - 1) % e) (omega (arith, small)) z (omega (arith, small)) rest) (lt_or_ge ((2 ^ d - 1) % e) 1)
      where
        small : (2 ^ d - 1) % e < e
        small = mod-lt (2 ^ d - 1) {m = e} l

        rest : power_of_x (2 ^ d) p ((2 ^ d - 1) % e) ≡ 1
        rest = sym (power_mod (2 ^ d) p e (2 ^ d - 1) t) ∙ whole

        divisor : (2 ^ d - 1) % e < 1 → ⊥
        divisor z =
            let q = quotients.divided e l h (lt-one z) in
            none q.0 q.1 q.2 (power_mod (2 ^ d) p e (get_or qs q.0 0) t ∙ ap (power_of_x (2 ^ d) p) q.3)

    pub primitive_by_powers : true ≡ is_primitive d p
    primitive_by_powers =
        sym ((is_primitive_iff d p hd degree).1
        (record {
          divides = divides_of_one d p hd degree (2 ^ d - 1) whole;
          least = λ e l w. ⊎_elim (λ h. absurd (no_early e e (le_refl e) l h (one_of_divides d p hd degree e w))) (λ h. h) (lt_or_ge e (2 ^ d - 1));
        }))

-- ---- the quotients, by a test that computes

-- e divides one of the numbers before place n that is not 0
unfoldable pub is_divided : List ℕ → ℕ → ℕ → Bool
is_divided qs e zero = false
is_divided qs e (suc n) = (ltb 0 (get_or qs n 0) && eqb (get_or qs n 0 % e) 0) || is_divided qs e n

abbrev Divided : List ℕ → ℕ → ℕ → Type 0
Divided qs e n = (k : ℕ) × (k < n) × (0 < get_or qs k 0) × (get_or qs k 0 % e ≡ 0)

divided_here : (qs : List ℕ) (e n : ℕ) → (ltb 0 (get_or qs n 0) && eqb (get_or qs n 0 % e) 0) ≡ true → Divided qs e (suc n)
divided_here qs e n t =
    let both = (and-eq-true_iff (ltb 0 (get_or qs n 0)) (eqb (get_or qs n 0 % e) 0)).0 t in
    (n, le_refl (suc n), ltb-true 0 (get_or qs n 0) both.0, eqb-true (get_or qs n 0 % e) 0 both.1)

divided_at : (qs : List ℕ) (e n : ℕ) → is_divided qs e n ≡ true → Divided qs e n
unfolding is_divided
divided_at qs e zero t = absurd (false≢true t)
divided_at qs e (suc n) t =
    ⊎_elim (divided_here qs e n) (λ u. let r = divided_at qs e n u in (r.0, omega (arith, r.1), r.2, r.3))
    (or_cases (ltb 0 (get_or qs n 0) && eqb (get_or qs n 0 % e) 0) (is_divided qs e n) t)

-- where e + 1 divides n, it divides one of the four
abbrev is_covered : ℕ → List ℕ → ℕ → Bool
is_covered n qs e = not (eqb (n % suc e) 0) || is_divided qs (suc e) 4

abbrev is_below : ℕ → List ℕ → ℕ → Bool
is_below n qs k = ltb (get_or qs k 0) n

unfoldable pub are_quotients : ℕ → List ℕ → Bool
are_quotients n qs = each (is_below n qs) 4 && each (is_covered n qs) (n - 1)

quotients_of : (d : ℕ) (qs : List ℕ) → are_quotients (2 ^ d - 1) qs ≡ true → Quotients d qs
unfolding are_quotients
quotients_of d qs t =
    let n = 2 ^ d - 1 in
    let both = (and-eq-true_iff (each (is_below n qs) 4) (each (is_covered n qs) (n - 1))).0 t in
    record {
      below = λ k h. ltb-true (get_or qs k 0) n (each_at (is_below n qs) 4 k both.0 h);
      divided = λ e l h z. of_predecessor n e l h z both.1;
    }
  where
    of_predecessor : (n e : ℕ) → 0 < e → e < n → n % e ≡ 0 → each (is_covered n qs) (n - 1) ≡ true → Divided qs e 4
    of_predecessor n zero l h z u = absurd (omega arith)
    of_predecessor n (suc e) l h z u =
        divided_at qs (suc e) 4
        (implied (eqb (n % suc e) 0) (is_divided qs (suc e) 4) (each_at (is_covered n qs) (n - 1) e u (omega arith)) (eq-eqb (n % suc e) 0 z))

pub quotients_at : (n : ℕ) {d : ℕ} {qs : List ℕ} → d ≡ n → are_quotients (2 ^ n - 1) qs ≡ true → Quotients d qs
quotients_at n {d} {qs} e t = rw e (quotients_of n qs t)
