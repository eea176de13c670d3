-- An index against the rest of a cut: its lowest digit decides, or leaves the answer to what is left of the index and of the cut. The digits
-- beyond an index are zeros, so the depth need not fall with them. Assumes nothing.
use mathlib.Core.Path.{◌≡◌, sym, ap₂, ◌∙◌, subst}
use mathlib.Core.Logic.{◌⊎◌, inl, inr}
use mathlib.Core.Bool.{Bool, true, false, not, ◌&&◌, and-true}
use Prim.Native.Nat.{ℕ, zero, suc, ◌+◌, ◌-◌, ◌*◌, ◌/◌, ◌%◌, ◌^◌, ◌<◌, ◌≤◌}
use native.Mathlib.Nat.{le_refl, zero-mul, mul-le-mul_right, zero-mod, add-zero, mul-lt-mul_of_pos_right, lt_of_mul-lt-mul_right, div-eq_of_lt, div-lt_iff_lt-mul}
use native.Mathlib.Numerals.{suc-eq-add-one}
use native.Mathlib.Omega.{arith}
use lib.Dec.{ltb}
use borrow.Author.Tests.{le-ltb, lt-ltb, ltb-true}
use Rattle.numbers.specs.Digits.{digit, numerator_to}
use Rattle.numbers.specs.Depth.{depth, denominator}
use Rattle.numbers.specs.Cut.{below_cut}
use Rattle.numbers.specs.Count.{bit}
use Rattle.numbers.proofs.Cases.{holds, fails, lt_iff, lt_or_ge, lt_eq_gt, true_or_false}
use Rattle.numbers.proofs.DigitLaws.{pow_pos, pow_one_more}
use Rattle.numbers.proofs.NumeratorLaws.{numerator_last, numerator_zero}
use Rattle.numbers.proofs.DepthLaws.{depth_covers, depth_pos}
use Rattle.halton.specs.Axis.{numerator}
use Rattle.discrepancy.proofs.CutLaws.{Decided, index_in_cut, in_cut_digit, in_cut_whole, below_cut_pos}
use Rattle.strips.specs.Ends.{within_cut}
use Rattle.strips.specs.Classes.{below_rest, within_rest, behind}

-- both numbers of a fraction times b
cut_times : (x d u q b : ℕ) → 0 < b → below_cut (x * b) (d * b) u q ≡ below_cut x d u q
unfolding below_cut
cut_times x d u q b pos =
    lt_iff (x * b * q) (u * (d * b)) (x * q) (u * d)
    (λ l. lt_of_mul-lt-mul_right b {m = x * q} {n = u * d} (omega arith))
    (λ l. omega (arith, mul-lt-mul_of_pos_right l pos))

module _ (σ : ℕ → ℕ) (b : ℕ) (first : σ 0 ≡ 0) (pos : 0 < b) where
  digit_beyond : (k n : ℕ) → n < b ^ k → digit b n k ≡ 0
  unfolding digit
  digit_beyond k n l = rw (div-eq_of_lt l) (zero-mod b)

  -- one zero more
  deeper : (k u q n : ℕ) → n < b ^ k → index_in_cut σ b (k + 1) u q n ≡ index_in_cut σ b k u q n
  deeper k u q n l =
      rw (numerator_last σ b k n, digit_beyond k n l, first, add-zero, pow_one_more b k) (cut_times (numerator_to σ b k n) (b ^ k) u q b pos)

-- ---- what is left of an end behind a digit

module _ (q d c rest : ℕ) where
  pub behind_below : d < c → behind q d c rest ≡ q
  unfolding behind
  behind_below h = rw (lt-ltb d c h)

  behind_greater : c < d → behind q d c rest ≡ 0
  unfolding behind
  behind_greater h = rw (le-ltb d c (omega arith), lt-ltb c d h)

  -- from the first digit on whose strip lies wholly above the end
  pub behind_above : c + bit (ltb 0 rest) ≤ d → behind q d c rest ≡ 0
  unfolding behind
  behind_above h = go (lt_or_ge c d)
    where
      go : (c < d) ⊎ (d ≤ c) → behind q d c rest ≡ 0
      go (inl k) = behind_greater k
      go (inr k) = rw (le-ltb d c (omega arith), le-ltb c d (omega arith)) (nothing (lt_or_ge 0 rest))
        where
          nothing : (0 < rest) ⊎ (rest ≤ 0) → rest ≡ 0
          nothing (inl g) = absurd (omega (arith, rw (lt-ltb 0 rest g) at h))
          nothing (inr g) = omega arith

-- a strip that lies outside: it is neither whole nor cut
pub behind_outside : (q d from left cut rest : ℕ) → (d ≡ cut → ⊥) → (0 < left → d ≡ from → ⊥) → (from + bit (ltb 0 left) ≤ d → cut ≤ d)
    → behind q d cut rest ≤ behind q d from left
behind_outside q d from left cut rest f g h = go (lt_eq_gt d cut) (lt_eq_gt d from)
  where
    go : (d < cut) ⊎ ((d ≡ cut) ⊎ (cut < d)) → (d < from) ⊎ ((d ≡ from) ⊎ (from < d)) → behind q d cut rest ≤ behind q d from left
    go (inl k) (inl m) = rw (behind_below q d cut rest k, behind_below q d from left m) (le_refl q)
    go (inl k) (inr (inl e)) = absurd (same (lt_or_ge 0 left))
      where
        same : (0 < left) ⊎ (left ≤ 0) → ⊥
        same (inl m) = g m e
        same (inr m) = omega (arith, h (rw (le-ltb 0 left m) (omega arith)))
    go (inl k) (inr (inr m)) = absurd (omega (arith, h (few (ltb 0 left))))
      where
        few : (t : Bool) → from + bit t ≤ d
        few true = omega arith
        few false = omega arith
    go (inr (inl e)) m = absurd (f e)
    go (inr (inr k)) m = rw (behind_greater q d cut rest k) (omega arith)

-- ---- an index

-- nothing is below the rest 0
rest_nothing : (σ : ℕ → ℕ) (b q n : ℕ) → below_rest σ b q 0 n ≡ false
unfolding below_rest
rest_nothing σ b q n = fails t (λ w. absurd (omega (arith, below_cut_pos (numerator σ b n) (denominator b) 0 q (holds t w))))
  where
    t : Bool
    t = below_cut (numerator σ b n) (denominator b) 0 q

module _ (σ : ℕ → ℕ) (b : ℕ) (low : 2 ≤ b) (below : (d : ℕ) → d < b → σ d < b) (first : σ 0 ≡ 0) where
  pos : 0 < b
  pos = omega arith

  -- one digit
  pub rest_digit : (u q n : ℕ) → 0 < q → n < 2 ^ 32
      → Decided (σ (n % b)) (u * b / q) (below_rest σ b q u n) (below_rest σ b q (u * b % q) (n / b))
  unfolding below_rest numerator denominator
  rest_digit u q n h l =
      subst (λ (k : ℕ). Decided (σ (n % b)) (u * b / q) (index_in_cut σ b k u q n) (index_in_cut σ b k (u * b % q) q (n / b)))
      {x = depth b - 1 + 1} {y = depth b} (omega (arith, depth_pos b low))
      (rw (deeper σ b first pos (depth b - 1) (u * b % q) q (n / b) left, ← suc-eq-add-one (depth b - 1)) (in_cut_digit σ b below pos (depth b - 1) u q n h))
    where
      left : n / b < b ^ (depth b - 1)
      left =
          (div-lt_iff_lt-mul {k = b} pos).1
          (rw (← pow_one_more b (depth b - 1)) (subst (λ (k : ℕ). n < b ^ k) {x = depth b} {y = depth b - 1 + 1} (omega (arith, depth_pos b low)) (depth_covers b n low l)))

  -- no digit left: below the rest unless that is 0
  pub rest_zero : (u q : ℕ) → below_rest σ b q u 0 ≡ ltb 0 u
  unfolding below_rest numerator denominator below_cut
  rest_zero u q =
      rw (numerator_zero σ b first (depth b), zero-mul)
      (lt_iff 0 (u * b ^ depth b) 0 u (λ l. positive u l) (λ l. omega (arith, mul-lt-mul_of_pos_right {m = 0} {n = u} {k = b ^ depth b} l (pow_pos b (depth b) pos))))
    where
      positive : (v : ℕ) → 0 < v * b ^ depth b → 0 < v
      positive zero g = absurd (omega arith)
      positive (suc v) g = omega arith

  -- every index is below the whole
  rest_whole : (q n : ℕ) → 0 < q → below_rest σ b q q n ≡ true
  unfolding below_rest numerator denominator
  rest_whole q n h = in_cut_whole σ b below pos (depth b) q n h

  -- ---- two ends

  -- the digit leaves an end to what is behind it
  pub rest_behind : (u q n : ℕ) → 0 < q → n < 2 ^ 32 → below_rest σ b q u n ≡ below_rest σ b q (behind q (σ (n % b)) (u * b / q) (u * b % q)) (n / b)
  unfolding behind
  rest_behind u q n h l = go (lt_eq_gt (σ (n % b)) (u * b / q))
    where
      go : (σ (n % b) < u * b / q) ⊎ ((σ (n % b) ≡ u * b / q) ⊎ (u * b / q < σ (n % b)))
          → below_rest σ b q u n ≡ below_rest σ b q (behind q (σ (n % b)) (u * b / q) (u * b % q)) (n / b)
      go (inl k) = rw (lt-ltb (σ (n % b)) (u * b / q) k) ((rest_digit u q n h l).less k ∙ sym (rest_whole q (n / b) h))
      go (inr (inl e)) =
          rw (le-ltb (σ (n % b)) (u * b / q) (omega arith), le-ltb (u * b / q) (σ (n % b)) (omega arith)) ((rest_digit u q n h l).equal e)
      go (inr (inr k)) =
          rw (le-ltb (σ (n % b)) (u * b / q) (omega arith), lt-ltb (u * b / q) (σ (n % b)) k) ((rest_digit u q n h l).greater k ∙ sym (rest_nothing σ b q (n / b)))

  pub within_digit : (v u q n : ℕ) → 0 < q → n < 2 ^ 32
      → within_rest σ b q v u n ≡ within_rest σ b q (behind q (σ (n % b)) (v * b / q) (v * b % q)) (behind q (σ (n % b)) (u * b / q) (u * b % q)) (n / b)
  unfolding within_rest within_cut below_rest
  within_digit v u q n h l = ap₂ (λ (x y : Bool). x && not y) (rest_behind u q n h l) (rest_behind v q n h l)

  -- every index is within 0 and the whole
  pub within_whole : (q n : ℕ) → 0 < q → within_rest σ b q 0 q n ≡ true
  unfolding within_rest within_cut below_rest
  within_whole q n h = ap₂ (λ (x y : Bool). x && not y) (rest_whole q n h) (rest_nothing σ b q n)

-- with the lower end 0 only the upper one counts
pub within_below : (σ : ℕ → ℕ) (b q u n : ℕ) → within_rest σ b q 0 u n ≡ below_rest σ b q u n
unfolding within_rest within_cut below_rest
within_below σ b q u n = rw (rest_nothing σ b q n) (and-true (below_rest σ b q u n))

-- nothing is within two ends whose lower one is not below the upper one
pub within_nothing : (σ : ℕ → ℕ) (b q v u n : ℕ) → u ≤ v → within_rest σ b q v u n ≡ false
unfolding within_rest within_cut below_cut
within_nothing σ b q v u n h = go (true_or_false (ltb X (u * d)))
  where
    X : ℕ
    X = numerator σ b n * q

    d : ℕ
    d = denominator b

    go : (ltb X (u * d) ≡ true) ⊎ (ltb X (u * d) ≡ false) → (ltb X (u * d) && not (ltb X (v * d))) ≡ false
    go (inl e) = rw (e, lt-ltb X (v * d) (omega (arith, ltb-true X (u * d) e, mul-le-mul_right d h)))
    go (inr e) = rw e
