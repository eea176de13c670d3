-- What the tests of a reading decide: a base is coprime to all earlier ones, an earlier axis has the same polynomial, a polynomial is primitive;
-- and the polynomial with given coefficients. A test over a list goes by its places. Assumes nothing.
use mathlib.Core.Path.{◌≡◌, refl, sym, ap, ◌∙◌}
use mathlib.Core.Bool.{Bool, true, false, not, ◌||◌, true≢false}
use mathlib.Core.List.{List, [], ◌∷◌}
use mathlib.Core.Logic.{◌↔◌, ◌≢◌, ◌⊎◌, inl, inr, ⊎_elim}
use Prim.Native.Nat.{ℕ, zero, suc, ◌+◌, ◌-◌, ◌*◌, ◌/◌, ◌%◌, ◌^◌, ◌≤◌, ◌<◌}
use native.Mathlib.Nat.{pow-suc, mod-eq_of_lt, mod-eq-sub-mod}
use native.Mathlib.Numerals.{sub-one}
use native.Mathlib.Omega.{arith}
use lib.Dec.{leb, eqb, eqb-suc-zero}
use lib.ListN.{length, get_or}
use lib.Pow.{pow_pos}
use borrow.Author.Tests.{lt-leb, leb-false, eq-eqb, ne_eqb, eqb-true, eqb-false, not-false}
use Rattle.numbers.specs.Gcd.{gcd, Coprime}
use Rattle.numbers.proofs.Cases.{lt_or_ge}
use Rattle.numbers.proofs.GcdLaws.{gcd_one_iff_coprime}
use Rattle.binary.specs.Polynomial.{Degree, Primitive, is_primitive}
use Rattle.binary.proofs.PolynomialLaws.{is_primitive_iff}
use Rattle.bits.specs.Stream.{to_bits, of_bits, AllBelow}
use Rattle.plan.specs.Plan.{Axis, no_axis, OneToSix}
use Rattle.plan.specs.Reading.{shares_factor, polynomial_of, not_primitive, is_repeated, bad_tail}
use Rattle.plan.specs.Refusals.{NotAmong}
use Rattle.bits.proofs.StreamLaws.{to_bits_add}

-- ---- Booleans

pub true_of : (b : Bool) → (b ≡ false → ⊥) → b ≡ true
true_of true h = refl
true_of false h = absurd (h refl)

pub or_false : (a b : Bool) → a || b ≡ false → (a ≡ false) × (b ≡ false)
or_false true b e = absurd (true≢false e)
or_false false b e = (refl, e)

pub false_or : {a b : Bool} → a ≡ false → b ≡ false → a || b ≡ false
false_or e f = rw (e, f) refl

-- ---- a test that holds at some place of a list

module _ {A : Type 0} (test : A → Bool) where
  unfoldable any : List A → Bool
  any [] = false
  any (x ∷ l) = test x || any l

  any_false : (d : A) (l : List A) → any l ≡ false → (j : ℕ) → j < length l → test (get_or l j d) ≡ false
  unfolding any
  any_false d [] e j h = absurd (omega arith)
  any_false d (x ∷ l) e zero h = (or_false (test x) (any l) e).0
  any_false d (x ∷ l) e (suc j) h = any_false d l (or_false (test x) (any l) e).1 j (omega arith)

  false_any : (d : A) (l : List A) → ((j : ℕ) → j < length l → test (get_or l j d) ≡ false) → any l ≡ false
  unfolding any
  false_any d [] h = refl
  false_any d (x ∷ l) h = false_or {a = test x} (h 0 (omega arith)) (false_any d l (λ j k. h (suc j) (omega arith)))

  any_true : (d : A) (l : List A) → any l ≡ true → (j : ℕ) × (j < length l) × (test (get_or l j d) ≡ true)
  unfolding any
  any_true d [] e = absurd (true≢false (sym e))
  any_true d (x ∷ l) e = split (test x) refl e (any_true d l)
    where
      split : (b : Bool) → test x ≡ b → b || any l ≡ true → (any l ≡ true → (j : ℕ) × (j < length l) × (test (get_or l j d) ≡ true))
          → (j : ℕ) × (j < length (x ∷ l)) × (test (get_or (x ∷ l) j d) ≡ true)
      split true f g more = (0, omega arith, f)
      split false f g more = let r = more g in (suc r.0, omega arith, r.2)

-- ---- a base and the earlier ones

shares : ℕ → ℕ → Bool
shares b a = not (eqb (gcd b a) 1)

shares_any : (b : ℕ) (l : List ℕ) → shares_factor b l ≡ any (shares b) l
unfolding shares_factor any shares
shares_any b [] = refl
shares_any b (a ∷ l) = ap (λ (t : Bool). not (eqb (gcd b a) 1) || t) (shares_any b l)

shares_iff : (b a : ℕ) → (shares b a ≡ false) ↔ Coprime b a
unfolding shares
shares_iff b a = (
  λ e. (gcd_one_iff_coprime b a).0 (eqb-true (gcd b a) 1 (not-false (eqb (gcd b a) 1) e)),
  λ c. ap not (eq-eqb (gcd b a) 1 ((gcd_one_iff_coprime b a).1 c)),
)

pub no_shared_factor_iff : (b : ℕ) (l : List ℕ) → (shares_factor b l ≡ false) ↔ ((j : ℕ) → j < length l → Coprime b (get_or l j 0))
no_shared_factor_iff b l = (
  λ e j h. (shares_iff b (get_or l j 0)).0 (any_false (shares b) 0 l (sym (shares_any b l) ∙ e) j h),
  λ c. shares_any b l ∙ false_any (shares b) 0 l (λ j h. (shares_iff b (get_or l j 0)).1 (c j h)),
)

pub shared_factor_at : (b : ℕ) (l : List ℕ) → shares_factor b l ≡ true → (j : ℕ) × (j < length l) × (Coprime b (get_or l j 0) → ⊥)
shared_factor_at b l e =
    let r = any_true (shares b) 0 l (sym (shares_any b l) ∙ e) in
    (r.0, r.1, λ c. true≢false (sym r.2 ∙ (shares_iff b (get_or l r.0 0)).1 c))

-- ---- a polynomial and the earlier axes

same : ℕ → Axis → Bool
same p x = eqb p x.polynomial

repeated_any : (p : ℕ) (l : List Axis) → is_repeated p l ≡ any (same p) l
unfolding is_repeated any same
repeated_any p [] = refl
repeated_any p (x ∷ l) = ap (λ (t : Bool). eqb p x.polynomial || t) (repeated_any p l)

pub not_repeated_iff : (p : ℕ) (l : List Axis) → (is_repeated p l ≡ false) ↔ NotAmong p l
unfolding same
not_repeated_iff p l = (
  λ e j h. eqb-false p (get_or l j no_axis).polynomial (any_false (same p) no_axis l (sym (repeated_any p l) ∙ e) j h),
  λ n. repeated_any p l ∙ false_any (same p) no_axis l (λ j h. ne_eqb p (get_or l j no_axis).polynomial (n j h)),
)

pub repeated_at : (p : ℕ) (l : List Axis) → is_repeated p l ≡ true → (j : ℕ) × (j < length l) × (p ≡ (get_or l j no_axis).polynomial)
unfolding same
repeated_at p l e =
    let r = any_true (same p) no_axis l (sym (repeated_any p l) ∙ e) in
    (r.0, r.1, eqb-true p (get_or l r.0 no_axis).polynomial r.2)

-- ---- the polynomial of a degree and coefficients

pub polynomial_degree : (d a : ℕ) → a < 2 ^ (d - 1) → Degree d (polynomial_of d a)
unfolding polynomial_of
polynomial_degree zero a h = record { low = omega arith; high = omega arith }
polynomial_degree (suc d) a h =
    let k : a < 2 ^ d = rw sub-one at h in
    record { low = omega arith; high = omega (arith, pow-suc 2 (suc d), pow-suc 2 d) }

pub polynomial_odd : (d a : ℕ) → polynomial_of d a % 2 ≡ 1
unfolding polynomial_of
polynomial_odd zero a = omega arith
polynomial_odd (suc d) a = omega (arith, pow-suc 2 d)

-- its digits d - 1 to 1 are the coefficients
pub polynomial_bits : (d a : ℕ) → to_bits (d - 1) (polynomial_of d a / 2) ≡ to_bits (d - 1) a
unfolding polynomial_of to_bits
polynomial_bits zero a = refl
polynomial_bits (suc d) a =
    let e : (2 ^ suc d + 2 * a + 1) / 2 ≡ 1 * 2 ^ d + a = omega (arith, pow-suc 2 d) in
    rw (sub-one, e) (to_bits_add d 1 a)

pub polynomial_of_bits : (d p : ℕ) → Degree d p → p % 2 ≡ 1 → polynomial_of d (p / 2 % 2 ^ (d - 1)) ≡ p
unfolding polynomial_of
polynomial_of_bits zero p g o = omega (arith, g.low, g.high)
polynomial_of_bits (suc d) p g o =
    let low : p / 2 % 2 ^ d ≡ p / 2 - 2 ^ d = mod-eq-sub-mod (omega (arith, pow-suc 2 d)) ∙ mod-eq_of_lt (omega (arith, pow-suc 2 (suc d), pow-suc 2 d)) in
    rw (sub-one, low) (omega (arith, pow-suc 2 d))

pub primitive_iff : (d p : ℕ) → Degree d p → (not_primitive d p ≡ false) ↔ (1 ≤ d → Primitive d p)
primitive_iff zero p g = (λ e h. absurd (omega arith), λ f. refl)
primitive_iff (suc d) p g = (
  λ e h. (is_primitive_iff (suc d) p h g).0 (not-false (is_primitive (suc d) p) (rw eqb-suc-zero at e)),
  λ f. rw (eqb-suc-zero, (is_primitive_iff (suc d) p (omega arith) g).1 (f (omega arith))) refl,
)

pub not_primitive_at : (d p : ℕ) → Degree d p → not_primitive d p ≡ true → (1 ≤ d) × (Primitive d p → ⊥)
not_primitive_at zero p g e = absurd (true≢false (sym e))
not_primitive_at (suc d) p g e = (omega arith, λ w. true≢false (sym e ∙ (primitive_iff (suc d) p g).1 (λ h. w)))

-- ---- the number of axes

pub axes_range_iff : (s : ℕ) → s < 8 → (eqb s 0 || eqb s 7 ≡ false) ↔ OneToSix s
axes_range_iff s h = (from, λ r. false_or {a = eqb s 0} (ne_eqb s 0 (λ e. omega arith)) (ne_eqb s 7 (λ e. omega arith)))
  where
    from : eqb s 0 || eqb s 7 ≡ false → OneToSix s
    from e =
        let o = or_false (eqb s 0) (eqb s 7) e in
        let none : s ≢ 0 = eqb-false s 0 o.0 in
        let many : s ≢ 7 = eqb-false s 7 o.1 in
        (omega arith, omega arith)

pub axes_out : (s : ℕ) → eqb s 0 || eqb s 7 ≡ true → (s ≡ 0) ⊎ (s ≡ 7)
axes_out s e = split (eqb s 0) refl e
  where
    split : (b : Bool) → eqb s 0 ≡ b → b || eqb s 7 ≡ true → (s ≡ 0) ⊎ (s ≡ 7)
    split true f g = inl (eqb-true s 0 f)
    split false f g = inr (eqb-true s 7 g)

-- ---- the bits after the last field

set_bit : (l : List ℕ) → AllBelow 2 l → (of_bits l ≡ 0 → ⊥) → (i : ℕ) × (i < length l) × (get_or l i 0 ≡ 1)
unfolding AllBelow of_bits
set_bit [] h n = absurd (n refl)
set_bit (zero ∷ l) h n = let r = set_bit l h.1 (λ e. n (omega (arith, e))) in (suc r.0, omega arith, r.2)
set_bit (suc b ∷ l) h n = (0, omega arith, omega arith)

bit_set : (l : List ℕ) (i : ℕ) → i < length l → get_or l i 0 ≡ 1 → of_bits l ≡ 0 → ⊥
unfolding of_bits
bit_set [] i h e z = omega arith
bit_set (b ∷ l) zero h e z = omega (arith, pow_pos (length l), ap (λ (x : ℕ). x * 2 ^ length l) e)
bit_set (b ∷ l) (suc i) h e z = bit_set l i (omega arith) e (omega arith)

pub tail_good : (l : List ℕ) → bad_tail l ≡ false → (length l < 8) × (of_bits l ≡ 0)
tail_good l e =
    let o = or_false (leb 8 (length l)) (not (eqb (of_bits l) 0)) e in
    (leb-false 8 (length l) o.0, eqb-true (of_bits l) 0 (not-false (eqb (of_bits l) 0) o.1))

pub good_tail : (l : List ℕ) → length l < 8 → of_bits l ≡ 0 → bad_tail l ≡ false
good_tail l h e = false_or {a = leb 8 (length l)} (lt-leb 8 (length l) h) (ap not (eq-eqb (of_bits l) 0 e))

pub tail_bad : (l : List ℕ) → AllBelow 2 l → bad_tail l ≡ true → ((i : ℕ) × (i < length l) × (get_or l i 0 ≡ 1)) ⊎ (8 ≤ length l)
tail_bad l h e = ⊎_elim (λ k. inl (set_bit l h (λ z. true≢false (sym e ∙ good_tail l k z)))) inr (lt_or_ge (length l) 8)

pub bad_tail_lem : (l : List ℕ) → ((i : ℕ) × (i < length l) × (get_or l i 0 ≡ 1)) ⊎ (8 ≤ length l) → bad_tail l ≡ true
bad_tail_lem l w =
    true_of (bad_tail l) (λ e. let g = tail_good l e in ⊎_elim (λ r. bit_set l r.0 r.1 r.2 g.1) (λ k. omega (arith, g.0)) w)
