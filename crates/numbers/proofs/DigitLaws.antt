-- Powers, sums, products, and how many digits a number has: the least K with b ^ K above it. Assumes nothing.
use mathlib.Core.Path.{◌≡◌, refl, sym, ap, ap₂, ◌∙◌}
use mathlib.Core.Logic.{◌↔◌}
use Prim.Native.Nat.{ℕ, zero, suc, ◌+◌, ◌*◌, ◌/◌, ◌^◌, ◌<◌, ◌≤◌, suc-le-suc}
use native.Mathlib.Nat.{le_refl, lt_of_le_of_lt, lt_of_lt_of_le, div-lt_self, div-lt_iff_lt-mul, pow-zero, pow-suc, pow-le-pow_left, pow-le-pow_right, one-le-pow, div-div-eq-div-mul, div-one, zero-lt-suc, add-mul, zero-mul, mul_assoc, mul-le-mul}
use native.Mathlib.Numerals.{add-one}
use native.Mathlib.Omega.{arith}
use Rattle.numbers.specs.Digits.{sum, product_to, digit_count_in, digit_count}

-- ---- powers and quotients

pub pow_pos : (b k : ℕ) → 0 < b → 0 < b ^ k
pow_pos b k l = one-le-pow k b l

pub pow_one_more : (b k : ℕ) → b ^ (k + 1) ≡ b ^ k * b
pow_one_more b k = rw add-one (pow-suc b k)

-- a power up to the k-th is at most the k-th
pub pow_up_to : (b : ℕ) {j k : ℕ} → 0 < b → j ≤ k → b ^ j ≤ b ^ k
pow_up_to b l h = pow-le-pow_right l h

pub quotient_none : (b n : ℕ) → n ≡ n / b ^ 0
quotient_none b n = rw pow-zero (sym (div-one n))

pub quotient_more : (b n j : ℕ) → n / b ^ j / b ≡ n / b ^ (j + 1)
quotient_more b n j = div-div-eq-div-mul n (b ^ j) b ∙ ap (λ (x : ℕ). n / x) (sym (pow_one_more b j))

-- ---- sums

pub sum_ext : (f g : ℕ → ℕ) (k : ℕ) → ((j : ℕ) → j < k → f j ≡ g j) → sum f k ≡ sum g k
unfolding sum
sum_ext f g zero h = refl
sum_ext f g (suc k) h = ap₂ ◌+◌ (sum_ext f g k (λ j l. h j (omega arith))) (h k (omega arith))

pub sum_times : (f : ℕ → ℕ) (k c : ℕ) → sum (λ j. f j * c) k ≡ sum f k * c
unfolding sum
sum_times f zero c = sym (zero-mul c)
sum_times f (suc k) c = rw (sum_times f k c) (sym (add-mul (sum f k) (f k) c))

pub sum_one_more : (f : ℕ → ℕ) (k : ℕ) → sum f (k + 1) ≡ sum f k + f k
unfolding sum
sum_one_more f k = rw add-one refl

-- ---- products

-- the first factor apart
pub product_front : (f g : ℕ → ℕ) → ((i : ℕ) → f (suc i) ≡ g i) → (k : ℕ) → product_to f (suc k) ≡ f 0 * product_to g k
unfolding product_to
product_front f g h zero = omega arith
product_front f g h (suc k) = rw (product_front f g h k, h k) (mul_assoc (f 0) (product_to g k) (g k))

pub product_mono : (f g : ℕ → ℕ) (k : ℕ) → ((i : ℕ) → i < k → f i ≤ g i) → product_to f k ≤ product_to g k
unfolding product_to
product_mono f g zero h = le_refl 1
product_mono f g (suc k) h = mul-le-mul (product_mono f g k (λ i l. h i (omega arith))) (h k (omega arith))

-- ---- the digit count

count_lt_in : (f b n : ℕ) → 2 ≤ b → n ≤ f → n < b ^ digit_count_in f b n
unfolding digit_count_in
count_lt_in zero b n l p = rw pow-zero (omega arith)
count_lt_in (suc f) b zero l p = rw pow-zero (omega arith)
count_lt_in (suc f) b (suc n) l p =
    rw pow-suc ((div-lt_iff_lt-mul {k = b} (omega arith)).0 (count_lt_in f b (suc n / b) l (omega (arith, div-lt_self (zero-lt-suc n) l))))

count_least_in : (f b n m : ℕ) → 2 ≤ b → n < b ^ m → digit_count_in f b n ≤ m
unfolding digit_count_in
count_least_in zero b n m l p = omega arith
count_least_in (suc f) b zero m l p = omega arith
count_least_in (suc f) b (suc n) zero l p = omega (arith, pow-zero b)
count_least_in (suc f) b (suc n) (suc m) l p =
    suc-le-suc (count_least_in f b (suc n / b) m l ((div-lt_iff_lt-mul {k = b} (omega arith)).1 (rw pow-suc at p)))

-- that power is above n
pub digit_count_reaches : (b n : ℕ) → 2 ≤ b → n < b ^ digit_count b n
unfolding digit_count
digit_count_reaches b n l = count_lt_in n b n l (le_refl n)

-- and no lower one is
pub digit_count_least : (b n m : ℕ) → 2 ≤ b → n < b ^ m → digit_count b n ≤ m
unfolding digit_count
digit_count_least b n m l p = count_least_in n b n m l p

-- both in one
pub digit_count_le_iff : (b n m : ℕ) → 2 ≤ b → (digit_count b n ≤ m) ↔ (n < b ^ m)
digit_count_le_iff b n m l =
    (λ h. lt_of_lt_of_le (digit_count_reaches b n l) (pow-le-pow_right (omega arith) h), digit_count_least b n m l)

pub digit_count_mono : (b : ℕ) → 2 ≤ b → {n m : ℕ} → n ≤ m → digit_count b n ≤ digit_count b m
digit_count_mono b l {n} {m} h = digit_count_least b n (digit_count b m) l (lt_of_le_of_lt h (digit_count_reaches b m l))

-- a 64-bit number has at most 64 digits
pub digit_count_word : (b n : ℕ) → 2 ≤ b → n < 2 ^ 64 → digit_count b n ≤ 64
digit_count_word b n l h = digit_count_least b n 64 l (lt_of_lt_of_le h (pow-le-pow_left l 64))

-- ---- the digit count as a loop counts: none for 0, and one more than n / b has

fuel : (f g b n : ℕ) → 2 ≤ b → n ≤ f → n ≤ g → digit_count_in f b n ≡ digit_count_in g b n
unfolding digit_count_in
fuel zero zero b n l p q = refl
fuel zero (suc g) b zero l p q = refl
fuel zero (suc g) b (suc n) l p q = absurd (omega arith)
fuel (suc f) zero b zero l p q = refl
fuel (suc f) zero b (suc n) l p q = absurd (omega arith)
fuel (suc f) (suc g) b zero l p q = refl
fuel (suc f) (suc g) b (suc n) l p q =
    let h : suc n / b < suc n = div-lt_self (zero-lt-suc n) l in
    ap suc (fuel f g b (suc n / b) l (omega arith) (omega arith))

pub digit_count_zero : (b : ℕ) → digit_count b 0 ≡ 0
unfolding digit_count digit_count_in
digit_count_zero b = refl

pub digit_count_step : (b n : ℕ) → 2 ≤ b → (n ≡ 0 → ⊥) → digit_count b n ≡ digit_count b (n / b) + 1
unfolding digit_count digit_count_in
digit_count_step b zero l f = absurd (f refl)
digit_count_step b (suc n) l f =
    let h : suc n / b < suc n = div-lt_self (zero-lt-suc n) l in
    omega (arith, fuel n (suc n / b) b (suc n / b) l (omega arith) (omega arith))
