-- Division by a product: where r × b is below m, the whole part of r × (m / b + 1) / m is r / b. Assumes nothing.
use mathlib.Core.Path.{◌≡◌, sym, subst}
use mathlib.Core.Logic.{⊎_elim}
use Prim.Native.Nat.{ℕ, ◌+◌, ◌-◌, ◌*◌, ◌/◌, ◌%◌, ◌^◌, ◌<◌, ◌≤◌}
use native.Mathlib.Nat.{add-mul, mod-lt, mod-eq-sub-div-mul, div-add-mod', div-mul-le_self, div-le_self, div-eq_of_lt-le, div-lt_iff_lt-mul, mul-le-mul_right, mul-le-mul_left, lt_of_mul-lt-mul_right}
use native.Mathlib.Omega.{arith}
use Rattle.numbers.proofs.Cases.{lt_or_ge}

reciprocal_under : (m b r : ℕ) → 2 ≤ b → r / b * m ≤ r * (m / b + 1)
reciprocal_under m b r big = below (m / b) (m % b) (r / b) (r % b) (div-add-mod' m b) (div-add-mod' r b) (mod-lt m (omega arith))
  where
    below : (c u q t : ℕ) → c * b + u ≡ m → q * b + t ≡ r → u < b → q * m ≤ r * (c + 1)
    below c u q t e f l =
        omega (arith, mul-le-mul_left {m = m} {n = (c + 1) * b} q (omega (arith, add-mul c 1 b)), mul-le-mul_right {m = q * b} {n = r} (c + 1) (omega arith))

module _ (m b r : ℕ) (big : 2 ≤ b) (fits : r * b < m) where
  reciprocal_over : r * (m / b + 1) < (r / b + 1) * m
  reciprocal_over =
      lt_of_mul-lt-mul_right b (above (m / b) (m % b) (r / b) (r % b) (div-add-mod' m b) (div-add-mod' r b) (mod-lt m (omega arith)) (mod-lt r (omega arith)))
    where
      -- times b: r × (m + b - m mod b) ≤ r × m + r × b < (r + 1) × m ≤ (r / b + 1) × b × m
      above : (c u q t : ℕ) → c * b + u ≡ m → q * b + t ≡ r → u < b → t < b → r * (c + 1) * b < (q + 1) * m * b
      above c u q t e f l k =
          omega (arith, mul-le-mul_left {m = c * b + b} {n = m + b} r (omega arith), mul-le-mul_right {m = r + 1} {n = (q + 1) * b} m (omega (arith, add-mul q 1 b)))

  reciprocal : r * (m / b + 1) / m ≡ r / b
  reciprocal = div-eq_of_lt-le m (reciprocal_under m b r big) reciprocal_over

-- where r alone is below m, the whole part is r / b or one more
module _ (m b r : ℕ) (big : 2 ≤ b) (small : r < m) where
  near_over : r * (m / b + 1) < (r / b + 2) * m
  near_over =
      lt_of_mul-lt-mul_right b (above (m / b) (m % b) (r / b) (r % b) (div-add-mod' m b) (div-add-mod' r b) (mod-lt r (omega arith)))
    where
      -- times b: r × (m + b) < (r / b + 1) × b × m + m × b
      above : (c u q t : ℕ) → c * b + u ≡ m → q * b + t ≡ r → t < b → r * (c + 1) * b < (q + 2) * m * b
      above c u q t e f l =
          omega (arith, mul-le-mul_left {m = c * b} {n = m} r (omega arith), mul-le-mul_right {m = r + 1} {n = (q + 1) * b} m (omega (arith, add-mul q 1 b)), mul-le-mul_right {m = r + 1} {n = m} b (omega arith))

  pub near_quotient : (r / b ≤ r * (m / b + 1) / m) × (r * (m / b + 1) / m ≤ r / b + 1)
  near_quotient = (
    ⊎_elim
        (λ l. absurd (omega (arith, reciprocal_under m b r big, (div-lt_iff_lt-mul {k = m} {x = r * (m / b + 1)} {y = r / b} (omega arith)).0 l)))
        (λ l. l) (lt_or_ge (r * (m / b + 1) / m) (r / b)),
    omega (arith, (div-lt_iff_lt-mul {k = m} {x = r * (m / b + 1)} {y = r / b + 2} (omega arith)).1 near_over),
  )

-- what a machine needs to know of that whole part q
pub record Near (r b q : ℕ) : Type 0 where
  pub product : r * (2 ^ 32 / b + 1) < 2 ^ 64
  pub back : q * b ≤ r + b
  pub over : r < q * b → (q ≡ r / b + 1)
  pub exact : q * b ≤ r → (q ≡ r / b)

pub near : (b r : ℕ) → 2 ≤ b → r < 2 ^ 32 → Near r b (r * (2 ^ 32 / b + 1) / 2 ^ 32)
near b r big l =
    let q = r * (2 ^ 32 / b + 1) / 2 ^ 32 in
    let n = near_quotient (2 ^ 32) b r big l in
    let i = div-lt_iff_lt-mul {k = b} {x = r} {y = q} (omega arith) in
    record {
      product = omega (arith, near_over (2 ^ 32) b r big l, div-mul-le_self r b, mul-le-mul_left {m = 2} {n = b} (r / b) big);
      back = omega (arith, mul-le-mul_right {m = q} {n = r / b + 1} b n.1, add-mul (r / b) 1 b, div-mul-le_self r b);
      over = λ h. omega (arith, i.1 h, n.1);
      exact = λ h. ⊎_elim (λ m. absurd (omega (arith, i.0 m))) (λ m. omega (arith, n.0)) (lt_or_ge (r / b) q);
    }

pub remainder_lt : (n b : ℕ) → 0 < b → n - n / b * b < b
remainder_lt n b l = subst (λ (y : ℕ). y < b) (mod-eq-sub-div-mul n b) (mod-lt n l)

-- the quotient q of r by b, and what a machine needs to know to take it by a product
pub record Divided (b r q : ℕ) : Type 0 where
  pub product : r * (2 ^ 32 / b + 1) < 2 ^ 64
  pub quotient : q ≡ r / b
  pub back : q * b ≤ r
  pub remainder : r - q * b ≡ r % b
  pub digit : r - q * b < b
  pub fits : q * b < 2 ^ 32

module _ (b r : ℕ) (big : 2 ≤ b) where
  is_divided : (q : ℕ) → q ≡ r / b → r * (2 ^ 32 / b + 1) < 2 ^ 64 → r < 2 ^ 32 → Divided b r q
  is_divided q e p l =
      record {
        product = p;
        quotient = e;
        back = rw e (div-mul-le_self r b);
        remainder = rw e (sym (mod-eq-sub-div-mul r b));
        digit = rw e (remainder_lt r b (omega arith));
        fits = rw e (omega (arith, div-mul-le_self r b));
      }

  -- of any index, by whatever gives the quotient
  pub divided_any : {q : ℕ} → q ≡ r / b → r < 2 ^ 32 → Divided b r q
  divided_any {q} e l = is_divided q e (near b r big l).product l

  -- where r × b is below 2^32, by the product
  pub divided : r * b < 2 ^ 32 → Divided b r (r * (2 ^ 32 / b + 1) / 2 ^ 32)
  divided l =
      is_divided (r * (2 ^ 32 / b + 1) / 2 ^ 32) (reciprocal (2 ^ 32) b r big l)
      (omega (arith, reciprocal_over (2 ^ 32) b r big l, div-le_self r b, mul-le-mul_left {m = 2} {n = b} r big))
      (omega (arith, mul-le-mul_left {m = 1} {n = b} r (omega arith)))
