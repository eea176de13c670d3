-- The test of a primitive polynomial is the definition: x^e is a multiple of p plus the remainder that the test computes, and a multiple of p
-- below 2^d is 0, so p divides x^e - 1 exactly where that remainder is 1. Assumes nothing.
use mathlib.Core.Path.{◌≡◌, refl, sym, ap, ap₂, ◌∙◌}
use mathlib.Core.Bool.{Bool, true, false, cond}
use mathlib.Core.Logic.{⊎_elim, ◌↔◌}
use Prim.Native.Nat.{ℕ, zero, suc, ◌+◌, ◌-◌, ◌*◌, ◌/◌, ◌%◌, ◌^◌, ◌≤◌, ◌<◌}
use native.Mathlib.Omega.{arith}
use native.Mathlib.Decide.{le_ind}
use native.Mathlib.Nat.{not-suc-le-zero, le_refl, le_antisymm, le_of_eq, le_trans, le_of_suc-le-suc, lt_of_lt_of_le}
use native.Mathlib.Nat.{pow-suc, one-mul, add-suc, add-zero, le-div_iff_mul-le, div-lt_iff_lt-mul, div-mul-le_self}
use lib.Dec.{eqb}
use lib.Arith.{bin_ind, half_le, lt-one}
use lib.Pow.{pow_pos, pow_mono}
use lib.Bits.{bit_xor, xor_zero_r, xor_comm, xor_self, xor_lt, xor_shr}
use borrow.Author.Tests.{lt-ltb, le-ltb, eq-eqb, ne_eqb, eqb-true, eqb-false}
use Rattle.binary.specs.Gf2.{times, product_in, product}
use Rattle.binary.specs.Polynomial.{Degree, Divides, Primitive, times_x, unless, only_last, is_primitive}
use Rattle.binary.specs.Power.{power_of_x}
use Rattle.numbers.proofs.Cases.{lt_or_ge}
use Rattle.binary.proofs.XorLaws.{xor_half, xor_assoc, xor_swap, xor_cancel, xor_eq_zero, xor_double}
use Rattle.binary.proofs.CombinationLaws.{times_digit_xor, times_lt}

-- ---- the product, by halves; it is linear

module _ (p : ℕ) where
  more_digits : (f q : ℕ) → q ≤ f → product_in (suc f) p q ≡ product_in f p q
  unfolding product_in
  more_digits zero zero h = refl
  more_digits zero (suc q) h = absurd (not-suc-le-zero h)
  more_digits (suc f) zero h = refl
  more_digits (suc f) (suc q) h = ap (λ (x : ℕ). bit_xor (times (suc q % 2) p) (x * 2)) (more_digits f (suc q / 2) (half_le h))

  enough_digits : (f q : ℕ) → q ≤ f → product_in f p q ≡ product_in q p q
  enough_digits f q h = le_ind (λ (m : ℕ). product_in m p q ≡ product_in q p q) refl (λ m k e. more_digits m q k ∙ e) f h

  pub product_zero : product p 0 ≡ 0
  unfolding product product_in
  product_zero = refl

  pub product_step : (q : ℕ) → product p q ≡ bit_xor (times (q % 2) p) (product p (q / 2) * 2)
  unfolding product product_in
  product_step zero = refl
  product_step (suc q) = ap (λ (x : ℕ). bit_xor (times (suc q % 2) p) (x * 2)) (enough_digits q (suc q / 2) (half_le (le_refl (suc q))))

  -- q's half and its lowest digit given apart
  product_of : (q h b : ℕ) → q / 2 ≡ h → q % 2 ≡ b → product p q ≡ bit_xor (times b p) (product p h * 2)
  product_of q h b eh eb = product_step q ∙ ap₂ (λ (b h : ℕ). bit_xor (times b p) (product p h * 2)) eb eh

  pub product_xor : (a b : ℕ) → product p (bit_xor a b) ≡ bit_xor (product p a) (product p b)
  product_xor =
      bin_ind (λ (a : ℕ). (b : ℕ) → product p (bit_xor a b) ≡ bit_xor (product p a) (product p b))
      (λ b. sym (ap (λ (x : ℕ). bit_xor x (product p b)) product_zero))
      (λ a ih b.
      product_step (bit_xor a b)
      ∙ ap₂ (λ (x y : ℕ). bit_xor x (y * 2)) (times_digit_xor p a b) (ap (product p) (xor_half a b) ∙ ih (b / 2))
      ∙ ap (bit_xor (bit_xor (times (a % 2) p) (times (b % 2) p))) (sym (xor_double (product p (a / 2)) (product p (b / 2))))
      ∙ xor_swap (times (a % 2) p) (times (b % 2) p) (product p (a / 2) * 2) (product p (b / 2) * 2)
      ∙ ap₂ bit_xor (sym (product_step a)) (sym (product_step b)))

  product_double : (q : ℕ) → product p (q * 2) ≡ product p q * 2
  product_double q = product_of (q * 2) q 0 (omega arith) (omega arith)

  product_double_one : (q : ℕ) → product p (q * 2 + 1) ≡ bit_xor p (product p q * 2)
  product_double_one q = product_of (q * 2 + 1) q 1 (omega arith) (omega arith)

-- ---- the leading digit

top_digit : (k x : ℕ) → Degree k x → x / 2 ^ k ≡ 1
top_digit k x a =
    le_antisymm
    (le_of_suc-le-suc ((div-lt_iff_lt-mul (pow_pos k)).1 (omega (arith, pow-suc 2 k, a.high))))
    ((le-div_iff_mul-le (pow_pos k)).1 (omega (arith, a.low)))

pub no_digit : (k x : ℕ) → x < 2 ^ k → x / 2 ^ k ≡ 0
no_digit k x h = lt-one ((div-lt_iff_lt-mul (pow_pos k)).1 (omega arith))

-- two numbers of one degree: the leading digits cancel
pub top_cancel : (k x y : ℕ) → Degree k x → Degree k y → bit_xor x y < 2 ^ k
top_cancel k x y a b = omega (arith, (div-lt_iff_lt-mul {x = bit_xor x y} (pow_pos k)).0 (le_of_eq (ap suc gone)))
  where
    gone : bit_xor x y / 2 ^ k ≡ 0
    gone = xor_shr x y k ∙ ap₂ bit_xor (top_digit k x a) (top_digit k y b)

-- a lower number leaves the degree
pub top_keep : (k x y : ℕ) → y < 2 ^ k → Degree k x → Degree k (bit_xor y x)
top_keep k x y h a =
    record {
      low = le_trans (le_of_eq (sym (one-mul (2 ^ k)) ∙ ap (λ (n : ℕ). n * 2 ^ k) (sym (xor_shr y x k ∙ ap₂ bit_xor (no_digit k y h) (top_digit k x a)))))
          (div-mul-le_self (bit_xor y x) (2 ^ k));
      high = xor_lt (suc k) y x (omega (arith, pow-suc 2 k)) a.high;
    }

degree_double : (k x : ℕ) → Degree k x → Degree (suc k) (x * 2)
degree_double k x a = record { low = omega (arith, pow-suc 2 k, a.low); high = omega (arith, pow-suc 2 k, pow-suc 2 (suc k), a.high) }

unless_true : (b c : Bool) → unless b c ≡ true → (b ≡ false) × (c ≡ true)
unless_true true c t = absurd (let z : ◌≡◌ {A = ℕ} 0 1 = cc in omega arith)
unless_true false c t = (refl, t)

pub times_x_less : (top p r : ℕ) → r * 2 < top → times_x top p r ≡ r * 2
unfolding times_x
times_x_less top p r h = ap (λ (b : Bool). cond b (r * 2) (bit_xor (r * 2) p)) (lt-ltb (r * 2) top h)

pub times_x_more : (top p r : ℕ) → top ≤ r * 2 → times_x top p r ≡ bit_xor (r * 2) p
unfolding times_x
times_x_more top p r h = ap (λ (b : Bool). cond b (r * 2) (bit_xor (r * 2) p)) (le-ltb (r * 2) top h)

-- ---- a polynomial p of degree d, from 1 up

module _ (d p : ℕ) (hd : 1 ≤ d) (degree : Degree d p) where
  one_lt : 1 < 2 ^ d
  one_lt = lt_of_lt_of_le (le_refl 2) (pow_mono {i = 1} {j = d} hd)

  -- a multiple of p other than 0 has at least p's degree
  product_degree : (q : ℕ) → 1 ≤ q → (i : ℕ) × Degree (d + i) (product p q)
  product_degree =
      bin_ind (λ (q : ℕ). 1 ≤ q → (i : ℕ) × Degree (d + i) (product p q)) (λ h. absurd (not-suc-le-zero h))
      (λ q ih h. by_half q h (q / 2) refl ih)
    where
      by_half : (q : ℕ) → 1 ≤ q → (h : ℕ) → q / 2 ≡ h
          → (1 ≤ q / 2 → (i : ℕ) × Degree (d + i) (product p (q / 2))) → (i : ℕ) × Degree (d + i) (product p q)
      by_half q l zero e ih =
          let whole : product p q ≡ p = product_of p q 0 1 e (omega arith) ∙ ap (λ (x : ℕ). bit_xor p (x * 2)) (product_zero p) ∙ xor_zero_r p in
          (0, rw (add-zero, whole) degree)
      by_half q l (suc h) e ih =
          let s = ih (omega arith) in
          let k = suc (d + s.0) in
          let low : times (q % 2) p < 2 ^ k = times_lt k (q % 2) p (lt_of_lt_of_le degree.high (pow_mono {i = suc d} {j = k} (omega arith))) in
          (suc s.0, rw (add-suc, product_step p q) (top_keep k (product p (q / 2) * 2) (times (q % 2) p) low (degree_double (d + s.0) (product p (q / 2)) s.1)))

  -- so a multiple below 2^d is 0
  small_product : (q : ℕ) → product p q < 2 ^ d → product p q ≡ 0
  small_product zero h = product_zero p
  small_product (suc q) h =
      let s = product_degree (suc q) (omega arith) in
      absurd (omega (arith, s.1.low, pow_mono {i = d} {j = d + s.0} (omega arith)))

  pub times_x_lt : (r : ℕ) → r < 2 ^ d → times_x (2 ^ d) p r < 2 ^ d
  times_x_lt r h =
      ⊎_elim (λ l. rw (times_x_less (2 ^ d) p r l) l)
      (λ l. rw (times_x_more (2 ^ d) p r l) (top_cancel d (r * 2) p (record { low = l; high = omega (arith, pow-suc 2 d) }) degree))
      (lt_or_ge (r * 2) (2 ^ d))

  pub power_of_x_lt : (e : ℕ) → power_of_x (2 ^ d) p e < 2 ^ d
  unfolding power_of_x
  power_of_x_lt zero = one_lt
  power_of_x_lt (suc e) = times_x_lt (power_of_x (2 ^ d) p e) (power_of_x_lt e)

  -- x^e is a multiple of p plus the remainder
  remainder : (e : ℕ) → (q : ℕ) × (2 ^ e ≡ bit_xor (product p q) (power_of_x (2 ^ d) p e))
  unfolding power_of_x
  remainder zero = (0, sym (ap (λ (x : ℕ). bit_xor x 1) (product_zero p)))
  remainder (suc e) = next (remainder e).0 (power_of_x (2 ^ d) p e) (remainder e).1
    where
      -- p added to both
      both : (a b : ℕ) → bit_xor a b ≡ bit_xor (bit_xor p a) (bit_xor b p)
      both a b = sym (rw (xor_comm b p, xor_swap p a p b, xor_self))

      next : (q r : ℕ) → 2 ^ e ≡ bit_xor (product p q) r → (q : ℕ) × (2 ^ suc e ≡ bit_xor (product p q) (times_x (2 ^ d) p r))
      next q r h =
          let twice : 2 ^ suc e ≡ bit_xor (product p q * 2) (r * 2) = pow-suc 2 e ∙ ap (λ (x : ℕ). x * 2) h ∙ sym (xor_double (product p q) r) in
          ⊎_elim
          (λ l. (q * 2, twice ∙ ap₂ bit_xor (sym (product_double p q)) (sym (times_x_less (2 ^ d) p r l))))
          (λ l. (q * 2 + 1, twice ∙ both (product p q * 2) (r * 2) ∙ ap₂ bit_xor (sym (product_double_one p q)) (sym (times_x_more (2 ^ d) p r l))))
          (lt_or_ge (r * 2) (2 ^ d))

  -- p divides x^e - 1 exactly where x^e modulo p is 1
  pub divides_of_one : (e : ℕ) → power_of_x (2 ^ d) p e ≡ 1 → Divides p e
  unfolding Divides
  divides_of_one e h =
      let s = remainder e in
      (s.0, sym (ap (λ (x : ℕ). bit_xor x 1) (s.1 ∙ ap (bit_xor (product p s.0)) h) ∙ xor_cancel (product p s.0) 1))

  remainder_one : (e q c r : ℕ) → r < 2 ^ d → 2 ^ e ≡ bit_xor (product p c) r → product p q ≡ bit_xor (2 ^ e) 1 → r ≡ 1
  remainder_one e q c r h rest whole = xor_eq_zero r 1 (sym same ∙ small_product (bit_xor q c) (rw same (xor_lt d r 1 h one_lt)))
    where
      regroup : (c r : ℕ) → bit_xor (bit_xor (bit_xor c r) 1) c ≡ bit_xor r 1
      regroup c r = rw (xor_comm (bit_xor (bit_xor c r) 1) c, xor_assoc c r 1, xor_comm c (bit_xor c (bit_xor r 1)), xor_comm c (bit_xor r 1)) (xor_cancel (bit_xor r 1) c)

      same : product p (bit_xor q c) ≡ bit_xor r 1
      same = rw (product_xor p q c, whole, rest) (regroup (product p c) r)

  pub one_of_divides : (e : ℕ) → Divides p e → power_of_x (2 ^ d) p e ≡ 1
  unfolding Divides
  one_of_divides e w = let s = remainder e in remainder_one e w.0 s.0 (power_of_x (2 ^ d) p e) (power_of_x_lt e) s.1 w.1

  -- ---- the test

  -- from x^e on, x^(e+n) is the first that is 1
  record First (e n : ℕ) : Type 0 where
    pub none : (k : ℕ) → e ≤ k → k < e + n → power_of_x (2 ^ d) p k ≡ 1 → ⊥
    pub last : power_of_x (2 ^ d) p (e + n) ≡ 1

  first_more : (n e : ℕ) → (power_of_x (2 ^ d) p e ≡ 1 → ⊥) → First (suc e) n → First e (suc n)
  first_more n e h o =
      record {
        none = λ k l m t. ⊎_elim (λ b. o.none k b (omega arith) t) (λ b. let s : k ≡ e = omega arith in h (rw s at t)) (lt_or_ge e k);
        last = ap (power_of_x (2 ^ d) p) (omega arith) ∙ o.last;
      }

  first_less : (n e : ℕ) → First e (suc n) → First (suc e) n
  first_less n e o = record { none = λ k l m t. o.none k (omega arith) (omega arith) t; last = ap (power_of_x (2 ^ d) p) (omega arith) ∙ o.last }

  first_of_true : (n e : ℕ) → only_last (2 ^ d) p n (power_of_x (2 ^ d) p e) ≡ true → First e n
  unfolding only_last power_of_x
  first_of_true zero e t = record { none = λ k l h. absurd (omega arith); last = ap (power_of_x (2 ^ d) p) (add-zero e) ∙ eqb-true (power_of_x (2 ^ d) p e) 1 t }
  first_of_true (suc n) e t =
      let u = unless_true (eqb (power_of_x (2 ^ d) p e) 1) (only_last (2 ^ d) p n (power_of_x (2 ^ d) p (suc e))) t in
      first_more n e (eqb-false (power_of_x (2 ^ d) p e) 1 u.0) (first_of_true n (suc e) u.1)

  true_of_first : (n e : ℕ) → First e n → only_last (2 ^ d) p n (power_of_x (2 ^ d) p e) ≡ true
  unfolding only_last power_of_x
  true_of_first zero e o = eq-eqb (power_of_x (2 ^ d) p e) 1 (ap (power_of_x (2 ^ d) p) (sym (add-zero e)) ∙ o.last)
  true_of_first (suc n) e o =
      ap (λ (b : Bool). unless b (only_last (2 ^ d) p n (power_of_x (2 ^ d) p (suc e)))) (ne_eqb (power_of_x (2 ^ d) p e) 1 (o.none e (omega arith) (omega arith)))
      ∙ true_of_first n (suc e) (first_less n e o)

  all_powers : 1 + (2 ^ d - 2) ≡ 2 ^ d - 1
  all_powers = omega (arith, one_lt)

  -- the test is the definition
  pub is_primitive_iff : (is_primitive d p ≡ true) ↔ Primitive d p
  unfolding is_primitive power_of_x
  is_primitive_iff = (passed, shown)
    where
      passed : is_primitive d p ≡ true → Primitive d p
      passed t =
          let o : First 1 (2 ^ d - 2) = first_of_true (2 ^ d - 2) 1 t in
          record {
            divides = divides_of_one (2 ^ d - 1) (ap (power_of_x (2 ^ d) p) (sym all_powers) ∙ o.last);
            least = λ e h w. ⊎_elim (λ l. absurd (o.none e h (omega (arith, all_powers)) (one_of_divides e w))) (λ l. l) (lt_or_ge e (2 ^ d - 1));
          }

      shown : Primitive d p → is_primitive d p ≡ true
      shown w =
          true_of_first (2 ^ d - 2) 1
          (record {
            none = λ k l m t. absurd (omega (arith, all_powers, w.least k l (divides_of_one k t)));
            last = ap (power_of_x (2 ^ d) p) all_powers ∙ one_of_divides (2 ^ d - 1) w.divides;
          })
