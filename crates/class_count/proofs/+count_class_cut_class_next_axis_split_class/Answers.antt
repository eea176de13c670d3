-- The four functions count a class before its next axis is taken up, at that axis, and while it is cut and split. Assumes nothing.
use mathlib.Core.Path.{◌≡◌, refl, sym, ap, ◌∙◌, subst}
use mathlib.Core.Bool.{true, false}
use mathlib.Core.Logic.{⊎_elim}
use Prim.Native.Nat.{ℕ, ◌+◌, ◌-◌, ◌*◌, ◌/◌, ◌%◌, ◌^◌, ◌<◌, ◌≤◌}
use native.Mathlib.Nat.{mod-lt}
use native.Mathlib.Omega.{arith}
use lib.ListN.{get_or}
use Rattle.numbers.specs.Count.{count}
use Rattle.numbers.proofs.Cases.{lt_or_ge}
use Rattle.strips.specs.Classes.{class_size, behind, inside_along, in_class, base_in, start_in, q_in, image_from, table_axes, Step, Split}
use Rattle.strips.proofs.SizeLaws.{class_lt, class_by, count_empty}
use Rattle.strips.proofs.HeldLaws.{held_digits, held_ends, held_less, steps_less, steps_reads, steps_times, steps_split, reads_split}
use Rattle.strips.proofs.SplitLaws.{first, split_none, split_le, split_all, split_full, split_nothing, split_one, split_behind, split_inside, split_outside, split_whole, axes_last, axes_same, axes_one, axes_more}
use Rattle.class_count.proofs.+count_class_cut_class_next_axis_split_class.Goals as goal
use Rattle.class_count.proofs.+count_class_cut_class_next_axis_split_class.Goals.{split_class-In-loop-i, split_class-After-is_whole, split_class-then-is_whole+then-s-eq0, split_class-then-is_whole+else-s-eq0, split_class-else-is_whole+then-is_cut, split_class-else-is_whole+else-is_cut}

-- ---- a class before its next axis is taken up

pub count_class-returns-then-s-eq0 : goal.count_class-returns-then-s-eq0
count_class-returns-then-s-eq0 t c =
    let a = c.args in
    axes_last a.l.now a.rows.now a.t a.m a.k c.if-s-eq0.true

pub count_class-next_axis-requires : goal.count_class-next_axis-requires
count_class-next_axis-requires t c =
    (omega (arith, c.requires.0), (held_less c.requires.0 (c.args.s - 1 + 1) (omega arith), steps_less c.requires.1 (c.args.s - 1 + 1) (omega arith)))

pub count_class-returns : goal.count_class-returns
count_class-returns t c =
    let a = c.args in
    c.next_axis.ensures ∙ axes_same a.l.now a.rows.now a.t a.m a.k (omega (arith, c.if-s-eq0.false))

-- ---- a class at an axis

pub next_axis-returns-then-k-eq0 : goal.next_axis-returns-then-k-eq0
next_axis-returns-then-k-eq0 t c = count_empty _ c.if-k-eq0.true

pub next_axis-returns-then-k-eq1 : goal.next_axis-returns-then-k-eq1
next_axis-returns-then-k-eq1 t c =
    let a = c.args in
    c.inside_step.ensures ∙ axes_one a.l.now a.rows.now (a.s + 1) a.t a.m c.if-k-eq1.true

pub next_axis-count_class-requires : goal.next_axis-count_class-requires
next_axis-count_class-requires t c =
    (omega arith, (held_less c.requires.0 c.args.s (omega arith), steps_less c.requires.1 c.args.s (omega arith)))

pub next_axis-returns-then-is_uncut : goal.next_axis-returns-then-is_uncut
next_axis-returns-then-is_uncut t c =
    let a = c.args in
    let f = c.is_uncut.ensures c.if-is_uncut.true in
    c.count_class.ensures
    ∙ split_whole a.l.now a.rows.now a.s (start_in a.rows.now a.s + a.t) a.m a.t a.m a.k c.requires.0 f.0 f.1
    ∙ sym (axes_more a.l.now a.rows.now a.s a.t a.m a.k)

pub next_axis-cut_class-requires : goal.next_axis-cut_class-requires
next_axis-cut_class-requires t c =
    let s = c.args.s in
    let e = held_ends c.requires.0 s (omega arith) in
    (omega arith, (c.requires.0, e.l_small, e.u_small, steps_reads c.requires.1 s (omega arith), refl, steps_less c.requires.1 s (omega arith)))

pub next_axis-returns : goal.next_axis-returns
next_axis-returns t c =
    let a = c.args in
    c.cut_class.ensures ∙ sym (axes_more a.l.now a.rows.now a.s a.t a.m a.k)

-- ---- a class whose axis is being cut

pub cut_class-returns-then-u-v : goal.cut_class-returns-then-u-v
cut_class-returns-then-u-v t c = split_nothing _ _ _ _ _ _ _ _ _ _ c.if-u-v.true

pub cut_class-returns-then-k-eq0 : goal.cut_class-returns-then-k-eq0
cut_class-returns-then-k-eq0 t c = count_empty _ c.if-k-eq0.true

pub cut_class-one_step-requires : goal.cut_class-one_step-requires
cut_class-one_step-requires t c =
    let r = c.requires in
    (r.0, r.1, r.2, omega (arith, r.3.reach 0 (omega arith)), subst (λ (o : ℕ). Step c.args.rows.now c.args.s o) (first c.args.t c.args.m) (r.5.at 0 (omega arith)))

pub cut_class-returns-then-k-eq1 : goal.cut_class-returns-then-k-eq1
cut_class-returns-then-k-eq1 t c =
    let a = c.args in
    c.one_step.ensures ∙ split_one a.l.now a.rows.now a.s a.v a.u a.x a.r a.t a.m c.if-k-eq1.true

pub cut_class-split_class-requires : goal.cut_class-split_class-requires
cut_class-split_class-requires t c =
    let r = c.requires in
    (omega arith, (r.0, r.1, r.2, r.3, r.4, r.5, omega (arith, c.if-k-eq1.false, c.if-k-eq0.false)))

-- ---- a class that splits

pub split_class-loop-i-init : goal.split_class-loop-i-init
split_class-loop-i-init t c = (split_none _ _ _ _ _ _ _ _ _ _, omega arith)

-- a turn is that of a class with a step
turn : (t : ℕ) (c : split_class-After-is_whole t) →
    let a = c.args in
    let i = c.loop-i.i in
    (i < base_in a.rows.now a.s) × (i < a.k)
turn t c =
    let e = c.class_number-end.ensures in
    let l : c.loop-i.i < c.class_number-end.result = c.loop-i-test.true in
    (omega (arith, e.0), omega (arith, e.1))

-- the class of a turn
size : (t : ℕ) (c : split_class-After-is_whole t) →
    let a = c.args in
    c.class_size-size.result ≡ class_size (base_in a.rows.now a.s) a.k c.loop-i.i
size t c =
    let a = c.args in
    c.class_size-size.ensures ∙ class_by (base_in a.rows.now a.s) a.k c.loop-i.i (turn t c).0

smaller : (t : ℕ) (c : split_class-After-is_whole t) → c.class_size-size.result < c.args.k
smaller t c =
    let a = c.args in
    omega (arith, size t c, class_lt (base_in a.rows.now a.s) a.k c.loop-i.i (held_digits c.requires.0 a.s (omega arith)).low c.requires.6)

-- one class more
abbrev Next : (t : ℕ) (c : split_class-After-is_whole t) → ℕ → Type 0
Next t c n =
    let a = c.args in
    let b = base_in a.rows.now a.s in
    let l = c.loop-i in
    Split a.l.now a.rows.now a.s a.v a.u a.x a.r a.t a.m a.k ((l.e + a.r % b) % b) n (l.i + 1)

-- a whole class, whose steps inside are y
whole : (t : ℕ) (c : split_class-After-is_whole t) (y : ℕ) → c.is_whole.result ≡ true →
    let a = c.args in
    y ≡ count (inside_along (table_axes a.l.now a.rows.now) a.s (a.t + a.m * c.loop-i.i) (a.m * base_in a.rows.now a.s)) c.class_size-size.result
    → Next t c (c.loop-i.n + y)
unfolding image_from
whole t c y is made =
    let e = c.is_whole.ensures.0 is in
    split_inside c.loop-i.invariant.0 (turn t c).0 c.requires.0 c.requires.3 refl (size t c)
    (rw (← c.lower_digit-from.ensures, ← c.lower_rest-left.ensures) (omega (arith, e.0, c.first_whole-first.ensures))) e.1 made

after_last : (t : ℕ) (c : split_class-After-is_whole t) → c.is_whole.result ≡ true → c.args.s ≡ 0 → Next t c (c.loop-i.n + c.class_size-size.result)
after_last t c is last =
    let a = c.args in
    whole t c c.class_size-size.result is
    (axes_last a.l.now a.rows.now (a.t + a.m * c.loop-i.i) (a.m * base_in a.rows.now a.s) c.class_size-size.result last)

after_next : (t : ℕ) (c : split_class-After-is_whole t) (y : ℕ) → c.is_whole.result ≡ true → (c.args.s ≡ 0 → ⊥) →
    let a = c.args in
    y ≡ count (inside_along (table_axes a.l.now a.rows.now) (a.s - 1 + 1) (a.t + a.m * c.loop-i.i) (a.m * base_in a.rows.now a.s)) c.class_size-size.result
    → Next t c (c.loop-i.n + y)
after_next t c y is more made =
    let a = c.args in
    whole t c y is
    (made ∙ axes_same a.l.now a.rows.now (a.t + a.m * c.loop-i.i) (a.m * base_in a.rows.now a.s) c.class_size-size.result (omega (arith, more)))

after_cut : (t : ℕ) (c : split_class-After-is_whole t) (lo hi y : ℕ) →
    let a = c.args in
    let b = base_in a.rows.now a.s in
    let q = q_in a.rows.now a.s in
    let d = get_or a.l.now (256 * a.s + c.loop-i.e) 0 in
    lo ≡ behind q d c.lower_digit-from.result c.lower_rest-left.result
    → hi ≡ behind q d (a.u * b / q) (a.u * b % q)
    → y ≡ count (in_class (table_axes a.l.now a.rows.now) a.s lo hi ((a.x + a.r * c.loop-i.i) / b) a.r (a.t + a.m * c.loop-i.i) (a.m * b)) c.class_size-size.result
    → Next t c (c.loop-i.n + y)
unfolding image_from
after_cut t c lo hi y l h made =
    split_behind c.loop-i.invariant.0 (turn t c).0 c.requires.0 c.requires.3 refl (size t c)
    (rw (← c.lower_digit-from.ensures, ← c.lower_rest-left.ensures) l) h made

after_outside : (t : ℕ) (c : split_class-After-is_whole t) → c.is_whole.result ≡ false →
    let a = c.args in
    let d = get_or a.l.now (256 * a.s + c.loop-i.e) 0 in
    (d ≡ a.u * base_in a.rows.now a.s / q_in a.rows.now a.s → ⊥) × (0 < c.lower_rest-left.result → d ≡ c.lower_digit-from.result → ⊥)
    → Next t c c.loop-i.n
unfolding image_from
after_outside t c is e =
    split_outside c.loop-i.invariant.0 (turn t c).0 c.requires.0 c.requires.3 refl (size t c) e.0
    (rw (← c.lower_digit-from.ensures, ← c.lower_rest-left.ensures) e.1)
    (λ h. c.is_whole.ensures.1 is (omega (arith, rw (← c.lower_digit-from.ensures, ← c.lower_rest-left.ensures) at h, c.first_whole-first.ensures)))

-- its numbers are small
low : (t : ℕ) (c : split_class-In-loop-i t) → c.args.m * base_in c.args.rows.now c.args.s ≤ 2 ^ 40
low t c = steps_times c.requires.5 c.requires.6 (held_digits c.requires.0 c.args.s (omega arith)).high

pub split_class-overflow_mul-m : goal.split_class-overflow_mul-m
split_class-overflow_mul-m t c = omega (arith, low t (goal.at.split_class-overflow_mul-m t c).In-loop-i)

pub split_class-overflow_mul-m-then-is_cut : goal.split_class-overflow_mul-m-then-is_cut
split_class-overflow_mul-m-then-is_cut t c = omega (arith, low t (goal.at.split_class-overflow_mul-m-then-is_cut t c).In-loop-i)

pub split_class-overflow_add-n : goal.split_class-overflow_add-n
split_class-overflow_add-n t c =
    let w = (goal.at.split_class-overflow_add-n t c).After-is_whole in
    omega (arith, split_le (after_last t w c.if-is_whole.true c.if-s-eq0.true), c.requires.5.few)

pub split_class-next_axis-n-requires : goal.split_class-next_axis-n-requires
split_class-next_axis-n-requires t c =
    let w = (goal.at.split_class-next_axis-n-requires t c).After-is_whole in
    let r = c.requires in
    let h : c.args.s - 1 + 1 ≤ c.args.s = omega (arith, c.if-s-eq0.false) in
    (omega (arith, smaller t w), (held_less r.0 (c.args.s - 1 + 1) (omega arith), steps_less (steps_split (turn t w).0 (size t w) r.5) (c.args.s - 1 + 1) h))

pub split_class-overflow_add-n-else-s-eq0 : goal.split_class-overflow_add-n-else-s-eq0
split_class-overflow_add-n-else-s-eq0 t c =
    let w = (goal.at.split_class-overflow_add-n-else-s-eq0 t c).After-is_whole in
    omega (arith, split_le (after_next t w _ c.if-is_whole.true c.if-s-eq0.false c.next_axis-n.ensures), c.requires.5.few)

pub split_class-cut_class-n-requires : goal.split_class-cut_class-n-requires
split_class-cut_class-n-requires t c =
    let w = (goal.at.split_class-cut_class-n-requires t c).After-is_whole in
    let a = c.args in
    let b = base_in a.rows.now a.s in
    let q = q_in a.rows.now a.s in
    let r = c.requires in
    let e = held_ends r.0 a.s (omega arith) in
    let lo : c.rest_behind-lo.result ≤ q = c.rest_behind-lo.ensures.1 (omega (arith, c.lower_rest-left.ensures, mod-lt (a.v * b) {m = q} e.q_pos)) in
    let hi : c.rest_behind-hi.result ≤ q = c.rest_behind-hi.ensures.1 (omega (arith, mod-lt (a.u * b) {m = q} e.q_pos)) in (
      omega (arith, smaller t w),
      (
        r.0,
        omega (arith, lo, hi, e.q_small),
        omega (arith, lo, hi, e.q_small),
        reads_split (turn t w).0 (size t w) r.3,
        r.4,
        steps_split (turn t w).0 (size t w) r.5,
      ),
    )

pub split_class-overflow_add-n-then-is_cut : goal.split_class-overflow_add-n-then-is_cut
split_class-overflow_add-n-then-is_cut t c =
    let w = (goal.at.split_class-overflow_add-n-then-is_cut t c).After-is_whole in
    omega (arith, split_le (after_cut t w _ _ _ c.rest_behind-lo.ensures.0 c.rest_behind-hi.ensures.0 c.cut_class-n.ensures), c.requires.5.few)

-- whichever way the arms were left, there is one class more, and the digit moves on by the stride's remainder
pub split_class-loop-i-preserved : goal.split_class-loop-i-preserved
split_class-loop-i-preserved t c =
    let k = (goal.at.split_class-loop-i-preserved t c).After-is_whole in
    let a = c.args in
    let b = base_in a.rows.now a.s in
    let met : Next t k c.if-is_whole.n =
    elim c.if-is_whole.branch [
      | split_class-then-is_whole+then-s-eq0 w ↦ rw w.n-is (after_last t k w.if-is_whole.true w.if-s-eq0.true)
      | split_class-then-is_whole+else-s-eq0 w ↦ rw w.n-is (after_next t k _ w.if-is_whole.true w.if-s-eq0.false w.next_axis-n.ensures)
      | split_class-else-is_whole+then-is_cut w ↦ rw w.n-is (after_cut t k _ _ _ w.rest_behind-lo.ensures.0 w.rest_behind-hi.ensures.0 w.cut_class-n.ensures)
      | split_class-else-is_whole+else-is_cut w ↦ rw w.n-is (after_outside t k w.if-is_whole.false (w.is_cut.ensures w.if-is_cut.false))
    ] in
    let moved = ap (λ (y : ℕ). (c.loop-i.e + y) % b) c.requires.4 in
    let split = λ (e : ℕ). Split a.l.now a.rows.now a.s a.v a.u a.x a.r a.t a.m a.k e c.if-is_whole.n (c.loop-i.i + 1) in
    (subst split (sym (c.next_digit-e.ensures ∙ moved)) met, omega (arith, c.loop-i-test.true))

pub split_class-returns : goal.split_class-returns
split_class-returns t c =
    ⊎_elim
    (λ l. split_full c.loop-i.invariant.0 (omega (arith, (held_digits c.requires.0 c.args.s (omega arith)).low)) (omega (arith, c.class_number-end.ensures.2 l, c.loop-i.invariant.1)))
    (λ l. split_all c.loop-i.invariant.0 (omega arith))
    (lt_or_ge c.class_number-end.result c.args.k)
