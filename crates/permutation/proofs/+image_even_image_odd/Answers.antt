-- The two functions are the two rules. Assumes nothing.
use mathlib.Core.Path.{◌≡◌, sym, ap, ◌∙◌}
use Prim.Native.Nat.{ℕ, ◌+◌, ◌-◌, ◌*◌, ◌/◌, ◌<◌}
use native.Mathlib.Omega.{arith}
use Rattle.permutation.specs.Faure.{faure, close_gap}
use Rattle.permutation.proofs.FaureRules.{cond_low, cond_high, faure_small, place_in, half_of, even_halves, place_below, odd_middle, odd_kept, odd_raised}
use Rattle.permutation.proofs.FaureLaws.{faure_below, close_below}
use Rattle.permutation.proofs.+image_even_image_odd.Goals as goal
use Rattle.permutation.proofs.+image_even_image_odd.Goals.{image_even-Joined-k-h, image_even-then-k-h, image_even-else-k-h, image_even-Joined-k-h-2, image_even-then-k-h-2, image_even-else-k-h-2, image_odd-Joined-k-c-2, image_odd-then-k-c-2, image_odd-else-k-c-2, image_odd-After-image_even-r, image_odd-Else-r-c}

-- ---- the even rule

-- where the arms have met, d is the digit's place in its half, and `upper` the half
place : (t : ℕ) (c : image_even-Joined-k-h t) → c.if-k-h.d ≡ place_in (c.args.b / 2) c.args.k
place t c =
    elim c.if-k-h.branch [
      | image_even-then-k-h w ↦ w.d-is ∙ sym (cond_low _ _ _ _ w.if-k-h.true)
      | image_even-else-k-h w ↦ w.d-is ∙ sym (cond_high _ _ _ _ w.if-k-h.false)
    ]

place_fits : (t : ℕ) (c : image_even-Joined-k-h t) → c.if-k-h.d < c.args.b / 2
place_fits t c = omega (arith, place t c, place_below (c.args.b / 2) c.args.k (omega arith))

half : (t : ℕ) (c : image_even-Joined-k-h-2 t) → c.if-k-h-2.upper ≡ half_of (c.args.b / 2) c.args.k
half t c =
    elim c.if-k-h-2.branch [
      | image_even-then-k-h-2 w ↦ w.upper-is ∙ sym (cond_low _ _ _ _ w.if-k-h-2.true)
      | image_even-else-k-h-2 w ↦ w.upper-is ∙ sym (cond_high _ _ _ _ w.if-k-h-2.false)
    ]

-- twice an image and a half: what the rule says, and below the base
even_answer : (t : ℕ) (c : image_even-Joined-k-h-2 t) (r : ℕ)
    → r ≡ faure (c.args.b / 2) c.if-k-h.d
    → (2 * r + c.if-k-h-2.upper ≡ faure c.args.b c.args.k) × (2 * r + c.if-k-h-2.upper < c.args.b)
even_answer t c r e =
    let a = c.args in
    let same : 2 * r + c.if-k-h-2.upper ≡ faure a.b a.k =
    omega (arith, half t c, e ∙ ap (faure (a.b / 2)) (place t c.before), even_halves a.b a.k (omega arith) (omega arith)) in
    (same, omega (arith, same, faure_below a.b a.k (omega arith) (omega arith)))

-- over base 2 or 3 the place is its own image
small_answer : (t : ℕ) (c : image_even-Joined-k-h-2 t)
    → c.args.b / 2 < 4
    → (2 * c.if-k-h.d + c.if-k-h-2.upper ≡ faure c.args.b c.args.k) × (2 * c.if-k-h.d + c.if-k-h-2.upper < c.args.b)
small_answer t c h = even_answer t c _ (faure_small (c.args.b / 2) c.if-k-h.d h (place_fits t c.before))

pub image_even-returns-then-h-lt4 : goal.image_even-returns-then-h-lt4
image_even-returns-then-h-lt4 t c = (small_answer t (goal.at.image_even-returns-then-h-lt4 t c).Joined-k-h-2 c.if-h-lt4.true).0

pub image_even-image_even-requires : goal.image_even-image_even-requires
image_even-image_even-requires t c = omega (arith, place_fits t (goal.at.image_even-image_even-requires t c).Joined-k-h)

pub image_even-image_odd-requires : goal.image_even-image_odd-requires
image_even-image_odd-requires t c = omega (arith, place_fits t (goal.at.image_even-image_odd-requires t c).Joined-k-h)

pub image_even-overflow_mul-result-then-h-eq0 : goal.image_even-overflow_mul-result-then-h-eq0
image_even-overflow_mul-result-then-h-eq0 t c =
    omega (arith, (even_answer t (goal.at.image_even-overflow_mul-result-then-h-eq0 t c).Joined-k-h-2 _ c.image_even.ensures).1)

pub image_even-overflow_add-result-then-h-eq0 : goal.image_even-overflow_add-result-then-h-eq0
image_even-overflow_add-result-then-h-eq0 t c =
    omega (arith, (even_answer t (goal.at.image_even-overflow_add-result-then-h-eq0 t c).Joined-k-h-2 _ c.image_even.ensures).1)

pub image_even-overflow_mul-result-else-h-eq0 : goal.image_even-overflow_mul-result-else-h-eq0
image_even-overflow_mul-result-else-h-eq0 t c =
    omega (arith, (even_answer t (goal.at.image_even-overflow_mul-result-else-h-eq0 t c).Joined-k-h-2 _ c.image_odd.ensures).1)

pub image_even-overflow_add-result-else-h-eq0 : goal.image_even-overflow_add-result-else-h-eq0
image_even-overflow_add-result-else-h-eq0 t c =
    omega (arith, (even_answer t (goal.at.image_even-overflow_add-result-else-h-eq0 t c).Joined-k-h-2 _ c.image_odd.ensures).1)

pub image_even-returns-then-h-eq0 : goal.image_even-returns-then-h-eq0
image_even-returns-then-h-eq0 t c = (even_answer t (goal.at.image_even-returns-then-h-eq0 t c).Joined-k-h-2 _ c.image_even.ensures).0

pub image_even-returns-else-h-eq0 : goal.image_even-returns-else-h-eq0
image_even-returns-else-h-eq0 t c = (even_answer t (goal.at.image_even-returns-else-h-eq0 t c).Joined-k-h-2 _ c.image_odd.ensures).0

-- ---- the odd rule

pub image_odd-returns-then-k-c : goal.image_odd-returns-then-k-c
image_odd-returns-then-k-c t c = sym (odd_middle c.args.b c.args.k (omega arith) (omega arith) (omega arith))

-- where the arms have met, d is the digit with the gap at the centre closed
closed : (t : ℕ) (c : image_odd-Joined-k-c-2 t) → c.if-k-c-2.d ≡ close_gap (c.args.b / 2) c.args.k
closed t c =
    elim c.if-k-c-2.branch [
      | image_odd-then-k-c-2 w ↦ w.d-is ∙ sym (cond_low _ _ _ _ w.if-k-c-2.true)
      | image_odd-else-k-c-2 w ↦ w.d-is ∙ sym (cond_high _ _ _ _ w.if-k-c-2.false)
    ]

pub image_odd-image_even-r-requires : goal.image_odd-image_even-r-requires
image_odd-image_even-r-requires t c = omega (arith, closed t c, close_below (c.args.b / 2) c.args.k c.if-k-c.false (omega arith))

-- r is the image, in the base one less, of that digit
aside : (t : ℕ) (c : image_odd-After-image_even-r t) → c.image_even-r.result ≡ faure (c.args.b - 1) (close_gap (c.args.b / 2) c.args.k)
aside t c = c.image_even-r.ensures ∙ ap (faure _) (closed t c.before)

pub image_odd-returns-then-r-c : goal.image_odd-returns-then-r-c
image_odd-returns-then-r-c t c = sym (odd_kept (omega arith) (omega arith) c.if-k-c.false (aside t c.before) (omega arith))

-- r + 1 is the answer, and so below the base
raised : (t : ℕ) (c : image_odd-Else-r-c t) → faure c.args.b c.args.k ≡ c.image_even-r.result + 1
raised t c = odd_raised (omega arith) (omega arith) c.if-k-c.false (aside t c.before) (omega arith)

pub image_odd-overflow_add-result : goal.image_odd-overflow_add-result
image_odd-overflow_add-result t c = omega (arith, raised t c, faure_below c.args.b c.args.k (omega arith) (omega arith))

pub image_odd-returns-else-r-c : goal.image_odd-returns-else-r-c
image_odd-returns-else-r-c t c = sym (raised t c)
