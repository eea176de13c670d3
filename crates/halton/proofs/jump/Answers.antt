-- `halton::jump` meets its contract: each digit by a product until nothing of the index is left, and then the leading zeros by one. Assumes nothing.
use mathlib.Core.Path.{◌≡◌, refl}
use Prim.Native.Nat.{ℕ, ◌+◌, ◌-◌, ◌*◌, ◌/◌, ◌^◌, ◌<◌}
use native.Mathlib.Nat.{div-le_self, div-lt_self, mul-le-mul_left}
use native.Mathlib.Omega.{arith}
use Rattle.numbers.proofs.DepthLaws.{denominator_lt, rising_pos, rising_fits}
use Rattle.numbers.proofs.ReciprocalLaws.{Divided, divided_any, divided}
use Rattle.halton.specs.Axis.{numerator}
use Rattle.halton.specs.Images.{image_by, DigitMap}
use Rattle.halton.proofs.AxisLaws.{numerator_below}
use Rattle.halton.proofs.ImageLaws.{image_by_digits}
use Rattle.halton.proofs.ReversingLaws.{Reversing, reversing_none, reversing_divided, reversing_lt, reversing_below, reversing_zeros, reversing_whole}
use Rattle.halton.proofs.jump.Goals as goal
use Rattle.halton.proofs.jump.Goals.{After-denominator, At-loop-rest, In-loop-rest}

-- what a digit becomes is a digit
digits : (c : At-loop-rest) →
    let a = c.args in
    DigitMap a.b (image_by a.family a.b a.images.now)
digits c =
    image_by_digits c.args.family c.args.b c.args.images.now (omega arith) c.requires.3

-- the power of the next digit is below 2^32, and what is made so far, times b, below 2^40
below : (c : In-loop-rest) → c.loop-rest.p < 2 ^ 32
below c = reversing_below c.loop-rest.invariant.1 (omega arith) (omega arith) (omega arith)

shifted : (c : In-loop-rest) → c.loop-rest.x * c.args.b < 2 ^ 40
shifted c = let digits : let a = c.args in DigitMap a.b (image_by a.family a.b a.images.now) = image_by_digits c.args.family c.args.b c.args.images.now (omega arith) c.requires.3 in
    let l = c.loop-rest in
    rising_fits {b = c.args.b} {p = l.x} (omega arith)
    (omega (arith, below c, reversing_lt l.invariant.1 (omega arith) (digits).below))

-- the next quotient
next : (c : In-loop-rest) →
    let b = c.args.b in
    let q = c.loop-rest.q in
    Divided b q (q * (2 ^ 32 / b + 1) / 2 ^ 32)
next c = divided c.args.b c.loop-rest.q (omega arith) c.loop-rest.invariant.0.fits

-- whatever gives it
quotient : {r : ℕ} (c : In-loop-rest) →
    let b = c.args.b in
    let q = c.loop-rest.q in r ≡ q / b → Divided b q r
quotient c e =
    let b = c.args.b in
    let q = c.loop-rest.q in
    divided_any b q (omega arith) e (omega (arith, c.loop-rest.invariant.0.fits, mul-le-mul_left {m = 1} {n = b} q (omega arith)))

pub overflow_add-m : goal.overflow_add-m
overflow_add-m c = omega (arith, div-le_self 4294967296 c.args.b)

pub quotient-q-requires : goal.quotient-q-requires
quotient-q-requires c = (omega arith, omega arith, omega arith, refl)

pub loop-rest-init : goal.loop-rest-init
loop-rest-init c =
    let a = c.args in
    (divided_any a.b a.n (omega arith) c.quotient-q.ensures (omega arith), reversing_none (image_by a.family a.b a.images.now) a.b a.n)

pub overflow_mul-x : goal.overflow_mul-x
overflow_mul-x c = omega (arith, shifted c)

pub overflow_mul-q : goal.overflow_mul-q
overflow_mul-q c = omega (arith, c.loop-rest.invariant.0.fits)

pub overflow_sub-rest : goal.overflow_sub-rest
overflow_sub-rest c = c.loop-rest.invariant.0.back

pub digit_image-requires : goal.digit_image-requires
digit_image-requires c = omega (arith, c.loop-rest.invariant.0.digit)

pub overflow_add-x : goal.overflow_add-x
overflow_add-x c = omega (arith, shifted (goal.at.overflow_add-x c).In-loop-rest, c.digit_image.ensures, (digits (goal.at.overflow_add-x c).At-loop-rest).below _ c.loop-rest.invariant.0.digit)

pub overflow_mul-q-in-loop-rest : goal.overflow_mul-q-in-loop-rest
overflow_mul-q-in-loop-rest c = omega (arith, (next (goal.at.overflow_mul-q-in-loop-rest c).In-loop-rest).product, c.loop-rest.invariant.0.fits)

pub overflow_mul-p : goal.overflow_mul-p
overflow_mul-p c = omega (arith, rising_fits {b = c.args.b} {p = c.loop-rest.p} (omega arith) (below (goal.at.overflow_mul-p c).In-loop-rest))

pub loop-rest-smaller : goal.loop-rest-smaller
loop-rest-smaller c =
    let l = c.loop-rest in
    omega (arith, l.invariant.0.quotient, div-lt_self {n = l.rest} {k = c.args.b} (omega arith) (omega arith))

pub loop-rest-preserved : goal.loop-rest-preserved
loop-rest-preserved c =
    let l = c.loop-rest in
    (quotient (goal.at.loop-rest-preserved c).In-loop-rest (omega (arith, (next (goal.at.loop-rest-preserved c).In-loop-rest).quotient)), rw c.digit_image.ensures (reversing_divided l.invariant.1 (omega arith) l.invariant.0 (below (goal.at.loop-rest-preserved c).In-loop-rest)))

pub nonzero_div-x : goal.nonzero_div-x
nonzero_div-x c = rising_pos c.loop-rest.invariant.1.power (omega arith)

-- what is made, with the leading zeros
whole : (c : After-denominator) →
    let a = c.args in
    let l = c.loop-rest in
    l.x * (c.denominator.result / l.p) ≡ numerator (image_by a.family a.b a.images.now) a.b a.n
whole c = let digits : let a = c.args in DigitMap a.b (image_by a.family a.b a.images.now) = image_by_digits c.args.family c.args.b c.args.images.now (omega arith) c.requires.3 in
    rw c.denominator.ensures (reversing_zeros c.loop-rest.invariant.1 (omega arith) (digits).zero_first (omega arith))

pub overflow_mul-x-then-p-lt-INDEXES : goal.overflow_mul-x-then-p-lt-INDEXES
overflow_mul-x-then-p-lt-INDEXES c =
    omega (arith, whole c, numerator_below (digits (goal.at.overflow_mul-x-then-p-lt-INDEXES c).At-loop-rest) (omega arith) c.args.n, denominator_lt c.args.b (omega arith) (omega arith))

pub returns-then-p-lt-INDEXES : goal.returns-then-p-lt-INDEXES
returns-then-p-lt-INDEXES c = whole c

pub returns-else-p-lt-INDEXES : goal.returns-else-p-lt-INDEXES
returns-else-p-lt-INDEXES c = reversing_whole c.loop-rest.invariant.1 (omega arith) (omega arith)
