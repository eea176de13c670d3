-- `class_count::below_rest` meets its contract: what is left of the index lies below what is left of the cut where the whole does. Assumes
-- nothing.
use mathlib.Core.Path.{refl, sym, ap, ◌∙◌}
use Prim.Native.Nat.{◌+◌, ◌*◌, ◌/◌, ◌%◌, ◌^◌, ◌<◌, ◌≤◌}
use native.Mathlib.Nat.{mod-lt, div-le_self, div-lt_self}
use native.Mathlib.Omega.{arith}
use lib.ListN.{length}
use Rattle.discrepancy.proofs.CutLaws.{Decided}
use Rattle.strips.specs.Classes.{below_rest, base_in, q_in, image_from, Digits}
use Rattle.strips.proofs.RestLaws.{rest_digit, rest_zero}
use Rattle.strips.proofs.HeldLaws.{held_digits, held_places, held_ends, held_image, held_times}
use Rattle.class_count.proofs.below_rest.Goals as goal
use Rattle.class_count.proofs.below_rest.Goals.{In-loop-n, Start}

-- the axis
places : (c : Start) → 5 * c.args.s + 4 < length c.args.rows.now
places c = held_places c.requires.0 c.args.s (omega arith)

digits : (c : Start) → Digits c.args.l.now (256 * c.args.s) (base_in c.args.rows.now c.args.s)
digits c = held_digits c.requires.0 c.args.s (omega arith)

whole : (c : Start) → (1 ≤ q_in c.args.rows.now c.args.s) × (q_in c.args.rows.now c.args.s ≤ 2 ^ 24)
whole c = let e = held_ends c.requires.0 c.args.s (omega arith) in (e.q_pos, e.q_small)

-- the place of the digit that a turn reads, and what the digit says
place : (c : In-loop-n) →
    let a = c.args in
    let b = base_in a.rows.now a.s in
    let n = c.loop-n.n in (256 * a.s + n % b < length a.l.now) × (image_from a.l.now (256 * a.s) (n % b) < 256)
place c =
    held_image c.requires.0 c.args.s (omega arith) c.loop-n.n

decided : (c : In-loop-n) →
    let a = c.args in
    let b = base_in a.rows.now a.s in
    let q = q_in a.rows.now a.s in
    let l = c.loop-n in
    let σ = image_from a.l.now (256 * a.s) in
    Decided (σ (l.n % b)) (l.v * b / q) (below_rest σ b q a.u a.x) (below_rest σ b q (l.v * b % q) (l.n / b))
decided c = let whole : (1 ≤ q_in c.args.rows.now c.args.s) × (q_in c.args.rows.now c.args.s ≤ 2 ^ 24) = let e = held_ends c.requires.0 c.args.s (omega arith) in (e.q_pos, e.q_small) in
    let digits : Digits c.args.l.now (256 * c.args.s) (base_in c.args.rows.now c.args.s) = held_digits c.requires.0 c.args.s (omega arith) in
    let a = c.args in
    let d = digits in
    let l = c.loop-n in
    rw l.invariant.2
    (rest_digit (image_from a.l.now (256 * a.s)) (base_in a.rows.now a.s) d.low d.below d.first l.v (q_in a.rows.now a.s) l.n (whole).0 l.invariant.1)

pub overflow_mul-b : goal.overflow_mul-b
overflow_mul-b c = omega (arith, places c)

pub offset_bounds-rows-s : goal.offset_bounds-rows-s
offset_bounds-rows-s c = omega (arith, places c)

pub bounds-rows-s : goal.bounds-rows-s
bounds-rows-s c = omega (arith, places (goal.at.bounds-rows-s c).Start)

pub overflow_mul-q : goal.overflow_mul-q
overflow_mul-q c = omega (arith, places (goal.at.overflow_mul-q c).Start)

pub overflow_add-q : goal.overflow_add-q
overflow_add-q c = omega (arith, places (goal.at.overflow_add-q c).Start)

pub offset_bounds-rows-s-2 : goal.offset_bounds-rows-s-2
offset_bounds-rows-s-2 c = omega (arith, places (goal.at.offset_bounds-rows-s-2 c).Start)

pub bounds-rows-s-2 : goal.bounds-rows-s-2
bounds-rows-s-2 c = omega (arith, places (goal.at.bounds-rows-s-2 c).Start)

pub loop-n-init : goal.loop-n-init
loop-n-init c = (omega arith, omega arith, refl)

pub overflow_mul-y : goal.overflow_mul-y
overflow_mul-y c = omega (arith, held_times c.requires.0 c.args.s (omega arith) c.loop-n.v c.loop-n.invariant.0)

pub nonzero_div-c : goal.nonzero_div-c
nonzero_div-c c = omega (arith, whole (goal.at.nonzero_div-c c).Start)

pub overflow_mul-d : goal.overflow_mul-d
overflow_mul-d c = omega (arith, place c)

pub nonzero_rem-d : goal.nonzero_rem-d
nonzero_rem-d c = omega (arith, (digits (goal.at.nonzero_rem-d c).Start).low)

pub overflow_add-d : goal.overflow_add-d
overflow_add-d c = omega (arith, place c)

pub bounds-l-s : goal.bounds-l-s
bounds-l-s c = omega (arith, place (goal.at.bounds-l-s c).In-loop-n)

pub overflow_cast-d : goal.overflow_cast-d
unfolding image_from
overflow_cast-d c = omega (arith, (place (goal.at.overflow_cast-d c).In-loop-n).1)

pub returns-then-d-c : goal.returns-then-d-c
unfolding image_from
returns-then-d-c c = sym ((decided (goal.at.returns-then-d-c c).In-loop-n).less c.if-d-c.true)

pub returns-then-c-d : goal.returns-then-c-d
unfolding image_from
returns-then-c-d c = sym ((decided (goal.at.returns-then-c-d c).In-loop-n).greater c.if-c-d.true)

pub nonzero_rem-v : goal.nonzero_rem-v
nonzero_rem-v c = omega (arith, whole (goal.at.nonzero_rem-v c).Start)

pub nonzero_div-n : goal.nonzero_div-n
nonzero_div-n c = omega (arith, (digits (goal.at.nonzero_div-n c).Start).low)

pub loop-n-smaller : goal.loop-n-smaller
loop-n-smaller c = div-lt_self (omega arith) (omega (arith, (digits (goal.at.loop-n-smaller c).Start).low))

pub loop-n-preserved : goal.loop-n-preserved
unfolding image_from
loop-n-preserved c = let b = base_in c.args.rows.now c.args.s in
    let l = c.loop-n in (
      omega (arith, mod-lt (l.v * b) {m = q_in c.args.rows.now c.args.s} (whole (goal.at.loop-n-preserved c).Start).0, (whole (goal.at.loop-n-preserved c).Start).1),
      omega (arith, div-le_self l.n b),
      (decided (goal.at.loop-n-preserved c).In-loop-n).equal (omega arith),
    )

pub returns : goal.returns
returns c = let a = c.args in
    let d = digits (goal.at.returns c).Start in
    let b = base_in a.rows.now a.s in
    let q = q_in a.rows.now a.s in
    let σ = image_from a.l.now (256 * a.s) in
    let l = c.loop-n in
    sym (l.invariant.2 ∙ ap (below_rest σ b q l.v) (omega arith) ∙ rest_zero σ b d.low d.below d.first l.v q)
