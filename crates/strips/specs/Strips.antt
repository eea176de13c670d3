-- Digit strips (02-change-requests.md, K2): what lies below a cut is a row of strips, each of them one residue class of the indexes, and a
-- combination has a strip for each axis. Definitions only.
use Rattle.std.specs.Prelude.{◌≡◌, Bool, cond, ◌&&◌, ℕ, zero, suc, ◌+◌, ◌*◌, ◌/◌, ◌%◌, ◌^◌, ◌<◌, ltb, leb, eqb}
use Rattle.numbers.specs.Digits.{sum, product_to}
use Rattle.numbers.specs.Count.{bit, count, each}
use Rattle.discrepancy.specs.Bound.{CutAxis, index_at}
use Rattle.strips.specs.Classes.{class_size}

-- A strip: the fractions with the same leading digits. Their indexes are those that leave the residue modulo b^j, j being the number of digits.
pub record Strip : Type 0 where
  pub modulus : ℕ
  pub residue : ℕ

-- no digit is given: every index
abbrev pub everything : Strip
everything = record { modulus = 1; residue = 0 }

-- the index n lies in the strip
unfoldable pub in_strip : Strip → ℕ → Bool
in_strip c n = eqb (n % c.modulus) c.residue

-- the digit of base b whose image is d
unfoldable pub digit_for : (ℕ → ℕ) → ℕ → ℕ → ℕ
digit_for σ b d = sum (λ x. x * bit (eqb (σ x) d)) b

-- the strip with one digit more, that with the image d
unfoldable pub narrowed : (ℕ → ℕ) → ℕ → Strip → ℕ → Strip
narrowed σ b c d = record { modulus = c.modulus * b; residue = c.residue + c.modulus * digit_for σ b d }

-- The sum of f over the strips that make up what lies below the cut u / q within the strip c, where k digits are left: for each digit below the
-- cut's own a strip, then those within the strip of the cut's own digit; and where no digit is left, c itself if it starts below the cut.
unfoldable pub sum_strips : (ℕ → ℕ) → ℕ → ℕ → ℕ → ℕ → Strip → (Strip → ℕ) → ℕ
sum_strips σ b q zero u c f = cond (ltb 0 u) (f c) 0
sum_strips σ b q (suc k) u c f =
    sum (λ d. f (narrowed σ b c d)) (u * b / q) + sum_strips σ b q k (u * b % q) (narrowed σ b c (u * b / q)) f

-- the same over all strips of an axis's cut; an axis that is not cut is one strip
unfoldable pub axis_strips : CutAxis → (Strip → ℕ) → ℕ
axis_strips a f = cond (leb a.q a.u) (f everything) (sum_strips a.image a.base a.q a.depth a.u everything f)

-- The sum, over the combinations of a strip of each of the first s axes, of the number of steps that pass the test and lie in all strips of the
-- combination, of N steps.
unfoldable pub sum_combinations : (ℕ → CutAxis) → ℕ → ℕ → (ℕ → Bool) → ℕ
sum_combinations ax N zero p = count p N
sum_combinations ax N (suc s) p = axis_strips (ax s) (λ c. sum_combinations ax N s (λ t. in_strip c (index_at (ax s) t) && p t))

-- ---- the class counts

-- The steps that leave the residue r modulo m and lie in the strip c of the axis a are one class again, modulo m × c's modulus, where the stride and
-- the moduli are coprime: its residue is the one such step below that modulus.
unfoldable pub joint : CutAxis → ℕ → ℕ → Strip → ℕ
joint a m r c = sum (λ t. t * bit (eqb (t % m) r && in_strip c (index_at a t))) (m * c.modulus)

-- The sum, over the same combinations within the class of r modulo m, of the sizes of their classes, of N steps.
unfoldable pub sum_classes : (ℕ → CutAxis) → ℕ → ℕ → ℕ → ℕ → ℕ
sum_classes ax N zero m r = class_size m N r
sum_classes ax N (suc s) m r = axis_strips (ax s) (λ c. sum_classes ax N s (m * c.modulus) (joint (ax s) m r c))

-- ---- the class of one combination

-- c is a strip of the axis a: the lowest digits of its indexes are given
pub record StripOf (a : CutAxis) (c : Strip) : Type 0 where
  pub digits : ℕ
  pub modulus_is : c.modulus ≡ a.base ^ digits
  pub proper : c.residue < c.modulus

-- the step t lies in all strips of a combination c of s axes
unfoldable pub in_combination : (ℕ → CutAxis) → (ℕ → Strip) → ℕ → ℕ → Bool
in_combination ax c s t = each (λ i. in_strip (c i) (index_at (ax i) t)) s

abbrev pub modulus_of : (ℕ → Strip) → ℕ → ℕ
modulus_of c i = (c i).modulus

-- The steps of a combination are one residue class, modulo the product of the strips' moduli.
pub record Class (ax : ℕ → CutAxis) (c : ℕ → Strip) (s : ℕ) : Type 0 where
  pub root : ℕ
  pub below : root < product_to (modulus_of c) s
  pub steps : (t : ℕ) → in_combination ax c s t ≡ eqb (t % product_to (modulus_of c) s) root

-- ---- how many strips there are

-- the number of strips within k digits of the cut u / q, the one on the cut's own digits included
unfoldable pub strips_within : ℕ → ℕ → ℕ → ℕ → ℕ
strips_within b q zero u = bit (ltb 0 u)
strips_within b q (suc k) u = u * b / q + strips_within b q k (u * b % q)
