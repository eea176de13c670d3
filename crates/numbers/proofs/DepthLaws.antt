-- The depth of a base is the least k with b ^ k at or above 2 ^ 32, and the denominator is that power. Assumes nothing.
use mathlib.Core.Path.{◌≡◌, refl, sym, ap, ap₂, ◌∙◌}
use mathlib.Core.Logic.{⊎_elim}
use Prim.Native.Nat.{ℕ, ◌+◌, ◌-◌, ◌*◌, ◌/◌, ◌^◌, ◌<◌, ◌≤◌}
use native.Mathlib.Nat.{le_antisymm, le_of_eq, le_trans, pow-zero, one-mul, mul_assoc, mul-div_cancel, mul-le-mul, mul-le-mul_left}
use native.Mathlib.Omega.{arith}
use lib.Pow.{pow-add}
use Rattle.numbers.specs.Digits.{digit_count, digit_count_in}
use Rattle.numbers.specs.Depth.{depth, denominator}
use Rattle.numbers.proofs.Cases.{lt_or_ge}
use Rattle.numbers.proofs.DigitLaws.{digit_count_reaches, digit_count_least, pow_pos, pow_one_more, pow_up_to}

pub depth_reaches : (b : ℕ) → 2 ≤ b → 2 ^ 32 ≤ b ^ depth b
unfolding depth
depth_reaches b l = omega (arith, digit_count_reaches b (2 ^ 32 - 1) l)

pub depth_least : (b m : ℕ) → 2 ≤ b → 2 ^ 32 ≤ b ^ m → depth b ≤ m
unfolding depth
depth_least b m l h = digit_count_least b (2 ^ 32 - 1) m l (omega arith)

-- the values that 01-scope.md names
pub depths : (depth 2 ≡ 32) × (depth 3 ≡ 21) × (depth 5 ≡ 14) × (depth 255 ≡ 5) × (depth 256 ≡ 4)
unfolding depth digit_count digit_count_in
depths = (refl, refl, refl, refl, refl)

-- an index below 2 ^ 32 has no more digits than the depth
pub depth_covers : (b n : ℕ) → 2 ≤ b → n < 2 ^ 32 → n < b ^ depth b
depth_covers b n l h = omega (arith, depth_reaches b l)

pub depth_pos : (b : ℕ) → 2 ≤ b → 0 < depth b
depth_pos b l = ⊎_elim (λ p. p) (λ p. absurd (none p)) (lt_or_ge 0 (depth b))
  where
    none : depth b ≤ 0 → ⊥
    none p = omega (arith, depth_reaches b l, pow_up_to b {j = depth b} {k = 0} (omega arith) p, pow-zero b)

-- a power of at most 2 ^ 32 is not past the depth
pub depth_within : (b k : ℕ) → 2 ≤ b → b ^ k ≤ 2 ^ 32 → k ≤ depth b
depth_within b k l h = ⊎_elim (λ p. absurd (past p)) (λ p. p) (lt_or_ge (depth b) k)
  where
    past : depth b < k → ⊥
    past p = omega (arith, pow_up_to b {j = depth b + 1} {k = k} (omega arith) (omega arith), pow_one_more b (depth b), mul-le-mul (depth_reaches b l) l)

-- one digit fewer does not reach
depth_short : (b : ℕ) → 2 ≤ b → b ^ (depth b - 1) < 2 ^ 32
depth_short b l =
    ⊎_elim (λ p. p) (λ p. absurd (omega (arith, depth_least b (depth b - 1) l p, depth_pos b l))) (lt_or_ge (b ^ (depth b - 1)) (2 ^ 32))

denominator_split : (b : ℕ) → 2 ≤ b → denominator b ≡ b ^ (depth b - 1) * b
unfolding denominator
denominator_split b l =
    ap (λ (k : ℕ). b ^ k) {x = depth b} {y = depth b - 1 + 1} (omega (arith, depth_pos b l)) ∙ pow_one_more b (depth b - 1)

-- the first weight times the base
pub weight_times : (b : ℕ) → 2 ≤ b → denominator b / b * b ≡ denominator b
weight_times b l =
    ap (λ (d : ℕ). d / b * b) (denominator_split b l) ∙ ap (λ (w : ℕ). w * b) (mul-div_cancel (b ^ (depth b - 1)) (omega arith)) ∙ sym (denominator_split b l)

-- so that its product with a cut's number below 2 ^ 24 fits a word
pub denominator_lt : (b : ℕ) → 2 ≤ b → b ≤ 256 → denominator b < 2 ^ 40
denominator_lt b l u =
    rw (denominator_split b l)
    (omega (arith, mul-le-mul {n₁ = b ^ (depth b - 1)} {m₁ = b} {n₂ = 2 ^ 32 - 1} {m₂ = 256} (omega (arith, depth_short b l)) u))

-- ---- a power of b on the way to the denominator

-- p is the k-th, and not past the depth
pub record Rising (b k p : ℕ) : Type 0 where
  pub within : k ≤ depth b
  pub is : p ≡ b ^ k

pub rising_none : (b : ℕ) → Rising b 0 1
rising_none b = record { within = omega arith; is = sym (pow-zero b) }

-- a power below 2 ^ 32 is on the way
pub rising_of : {b k p : ℕ} → 2 ≤ b → p ≡ b ^ k → p < 2 ^ 32 → Rising b k p
rising_of {b} {k} l e h = record { within = depth_within b k l (omega (arith, e)); is = e }

module _ {b k p : ℕ} (a : Rising b k p) (l : 2 ≤ b) where
  pub rising_more : p < 2 ^ 32 → Rising b (k + 1) (p * b)
  rising_more h =
      record {
        within = ⊎_elim (λ q. omega arith) (λ q. absurd (omega (arith, a.is, depth_reaches b l, pow_up_to b (omega arith) q))) (lt_or_ge k (depth b));
        is = ap (λ (x : ℕ). x * b) a.is ∙ sym (pow_one_more b k);
      }

  pub rising_pos : 0 < p
  rising_pos = omega (arith, a.is, pow_pos b k (omega arith))

  pub rising_depth : 2 ^ 32 ≤ p → k ≡ depth b
  rising_depth h = le_antisymm a.within (depth_least b k l (le_trans h (le_of_eq a.is)))

  pub rising_whole : 2 ^ 32 ≤ p → p ≡ denominator b
  unfolding denominator
  rising_whole h = a.is ∙ ap (λ (j : ℕ). b ^ j) (rising_depth h)

  -- the power of the digits that are left
  pub rising_left : denominator b / p ≡ b ^ (depth b - k)
  unfolding denominator
  rising_left =
      ap₂ ◌/◌ (ap (λ (j : ℕ). b ^ j) {x = depth b} {y = depth b - k + k} (omega (arith, a.within)) ∙ pow-add b (depth b - k) k) a.is
      ∙ mul-div_cancel (b ^ (depth b - k)) (pow_pos b k (omega arith))

-- the last below 2 ^ 32 is the first weight
pub rising_last : {b k p : ℕ} → Rising b k p → 2 ≤ b → p < 2 ^ 32 → 2 ^ 32 ≤ p * b → p ≡ denominator b / b
rising_last {b} {k} {p} a l h up = sym (mul-div_cancel p (omega arith)) ∙ ap (λ (d : ℕ). d / b) (rising_whole (rising_more a l h) l up)

-- one more factor: the product fits a word, and the way to 2 ^ 32 is shorter
pub rising_fits : {b p : ℕ} → b ≤ 256 → p < 2 ^ 32 → p * b < 2 ^ 40
rising_fits {b} {p} u h = omega (arith, mul-le-mul {n₁ = p} {m₁ = b} {n₂ = 2 ^ 32 - 1} {m₂ = 256} (omega arith) u)

pub rising_nears : {b p : ℕ} → 2 ≤ b → 0 < p → p < 2 ^ 32 → 2 ^ 32 - p * b < 2 ^ 32 - p
rising_nears {b} {p} l pos h = omega (arith, mul-le-mul_left {m = 2} {n = b} p l)

-- four more factors: their product fits a word, and so does that of any power below 2 ^ 32 by it
pub fourth_fits : {b : ℕ} → b ≤ 256 → (b * b ≤ 2 ^ 16) × (b * b * b ≤ 2 ^ 24) × (b * b * b * b ≤ 2 ^ 32)
fourth_fits {b} u = (two, three, mul-le-mul three u)
  where
    two : b * b ≤ 2 ^ 16
    two = mul-le-mul u u

    three : b * b * b ≤ 2 ^ 24
    three = mul-le-mul two u

pub fourth_product : {b p : ℕ} → b ≤ 256 → p < 2 ^ 32 → p * (b * b * b * b) < 2 ^ 64
fourth_product {b} {p} u h =
    omega (arith, mul-le-mul {n₁ = p} {m₁ = b * b * b * b} {n₂ = 2 ^ 32 - 1} {m₂ = 2 ^ 32} (omega arith) (fourth_fits u).2)

pub fourth_grows : {b : ℕ} → 2 ≤ b → 16 ≤ b * b * b * b
fourth_grows l = mul-le-mul (mul-le-mul (mul-le-mul l l) l) l

-- the first, second and fourth power
pub power_first : (b : ℕ) → b ≡ b ^ 1
power_first b = sym (pow_one_more b 0 ∙ ap (λ (x : ℕ). x * b) (pow-zero b) ∙ one-mul b)

pub power_second : (b : ℕ) → b * b ≡ b ^ 2
power_second b = ap (λ (x : ℕ). x * b) (power_first b) ∙ sym (pow_one_more b 1)

pub fourth_more : (b k : ℕ) {p : ℕ} → p ≡ b ^ k → p * (b * b * b * b) ≡ b ^ (k + 4)
fourth_more b k e = ap₂ ◌*◌ e (one_more 3 (one_more 2 (power_second b))) ∙ sym (pow-add b k 4)
  where
    one_more : (j : ℕ) {x : ℕ} → x ≡ b ^ j → x * b ≡ b ^ (j + 1)
    one_more j h = ap (λ (x : ℕ). x * b) h ∙ sym (pow_one_more b j)

-- ---- the last power below 2 ^ 32

-- w is a power of b below 2 ^ 32, and a factor s would reach it
pub record Near (b s w : ℕ) : Type 0 where
  pub digits : ℕ
  pub is : w ≡ b ^ digits
  pub below : w < 2 ^ 32
  pub reaches : 2 ^ 32 ≤ w * s

-- by a power of b of which the square would reach 2 ^ 32, where it fits
pub near_raised : {b s w r : ℕ} (k : ℕ) → s ≡ b ^ k → Near b (s * s) w → (w * s < 2 ^ 32 → r ≡ w * s) × (2 ^ 32 ≤ w * s → r ≡ w) → Near b s r
near_raised {b} {s} {w} k e a h =
    ⊎_elim
    (λ l.
    rw (h.0 l)
    (record {
      digits = a.digits + k;
      is = ap₂ ◌*◌ a.is e ∙ sym (pow-add b a.digits k);
      below = l;
      reaches = omega (arith, a.reaches, mul_assoc w s s);
    }))
    (λ g. rw (h.1 g) (record { digits = a.digits; is = a.is; below = a.below; reaches = g })) (lt_or_ge (w * s) (2 ^ 32))

-- where b itself would reach it, it is the first weight
pub near_last : {b w : ℕ} → 2 ≤ b → Near b b w → w ≡ denominator b / b
near_last l a = rising_last (rising_of l a.is a.below) l a.below a.reaches
