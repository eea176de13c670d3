-- One case law a return; the first points inside are those of the whole set. Assumes nothing.
-- the run is at the start
-- what the window and the day set then are
-- the first points are counted
use mathlib.Core.Path.{◌≡◌, sym, ap, ap₂, ◌∙◌}
use mathlib.Core.Bool.{true, false}
use mathlib.Core.List.{List}
use Prim.Native.Nat.{ℕ, ◌-◌, ◌*◌, ◌^◌, ◌≤◌}
use native.Mathlib.Numerals.{add-one}
use native.Mathlib.Omega.{arith}
use borrow.Author.Rules.{rules}
use lib.ListN.{length, drop, take, length-drop}
use lib.Seq.{take_all}
use Rattle.points.proofs.RunLaws.{within_all}
use Rattle.state.specs.State.{genuine}
use Rattle.calls.proofs.CaseLaws.{foreign_of, known_of}
use Rattle.calls.proofs.PointLaws.{axes_few, known_arrays, known_run}
use Rattle.day_set.specs.DaySet.{day_size, day_width, genuine_day}
use Rattle.day_set.proofs.CaseLaws.{foreign_start, by_run, day_is}
use Rattle.window.specs.Counting.{cut_at, is_window}
use Rattle.window.proofs.RangeLaws.{window_parts, window_room, range_at}
use Rattle.window.proofs.LeadingLaws.{window_rest}
use Rattle.window_count.specs.Call.{counted}
use Rattle.day_count.proofs.FirstLaws.{limit_within}
use Rattle.day_count.proofs.CaseLaws.{day_count_foreign, day_count_off, day_count_done, day_count_in_arrays, day_bound_fits, day_bound_is}
use Rattle.day_count.proofs.day_count.Goals as goal
use Rattle.day_count.proofs.day_count.Goals.{After-cut_limit-first, After-is_genuine, After-is_window, Else-not-is_genuine, Else-not-is_window, Then-not-is_genuine, Then-not-is_window}

pub returns-then-not-from_zero : goal.returns-then-not-from_zero
returns-then-not-from_zero c = c.refused.ensures ∙ sym (day_count_foreign _ _ (foreign_start _ (foreign_of _ _ c.from_zero.ensures c.if-not-from_zero.true)))

by : (c : After-is_genuine) → let d = c.args.d in genuine_day d ≡ genuine d.run
by c = by_run c.args.d (known_of _ _ c.from_zero.ensures c.if-not-from_zero.false)

foreign : (c : Then-not-is_genuine) → genuine_day c.args.d ≡ false
foreign c = let by : let d = c.args.d in genuine_day d ≡ genuine d.run = by_run c.args.d (known_of _ _ c.from_zero.ensures c.if-not-from_zero.false) in
    by ∙ foreign_of _ _ c.is_genuine.ensures c.if-not-is_genuine.true

known : (c : Else-not-is_genuine) → genuine_day c.args.d ≡ true
known c = let by : let d = c.args.d in genuine_day d ≡ genuine d.run = by_run c.args.d (known_of _ _ c.from_zero.ensures c.if-not-from_zero.false) in
    by ∙ known_of _ _ c.is_genuine.ensures c.if-not-is_genuine.false

pub returns-then-not-is_genuine : goal.returns-then-not-is_genuine
returns-then-not-is_genuine c = c.refused-then-not-is_genuine.ensures ∙ sym (day_count_foreign _ _ (foreign (goal.at.returns-then-not-is_genuine c).Then-not-is_genuine))

few : (c : Else-not-is_genuine) → c.args.d.run.axes ≤ 6
few c = (axes_few _ (day_is _ (known c)).1).1

pub overflow_add-axes : goal.overflow_add-axes
overflow_add-axes c = omega (arith, few c)

pub is_window-requires : goal.is_window-requires
is_window-requires c = omega (arith, few c)

wide : (c : After-is_window) → let a = c.args in c.is_window.result ≡ is_window a.w.now (day_width a.d)
wide c = let a = c.args in c.is_window.ensures ∙ ap (is_window a.w.now) (add-one a.d.run.axes)

off : (c : Then-not-is_window) → let a = c.args in is_window a.w.now (day_width a.d) ≡ false
off c = let wide : let a = c.args in c.is_window.result ≡ is_window a.w.now (day_width a.d) = let a = c.args in c.is_window.ensures ∙ ap (is_window a.w.now) (add-one a.d.run.axes) in
    foreign_of _ _ (wide) c.if-not-is_window.true

fits : (c : Else-not-is_window) → let a = c.args in is_window a.w.now (day_width a.d) ≡ true
fits c = let wide : let a = c.args in c.is_window.result ≡ is_window a.w.now (day_width a.d) = let a = c.args in c.is_window.ensures ∙ ap (is_window a.w.now) (add-one a.d.run.axes) in
    known_of _ _ (wide) c.if-not-is_window.false

pub returns-then-not-is_window : goal.returns-then-not-is_window
returns-then-not-is_window c = c.refused-then-not-is_window.ensures ∙ sym (day_count_off _ _ (known (goal.at.returns-then-not-is_window c).Else-not-is_genuine) (off (goal.at.returns-then-not-is_window c).Then-not-is_window))

long : (c : Else-not-is_window) → let a = c.args in length a.w.now ≡ 2 * day_width a.d
long c = (window_parts _ _ (fits c)).0

leading : (c : Else-not-is_window) → let l = cut_at c.args.w.now 0 in (1 ≤ l.q) × (l.q ≤ 2 ^ 24) × (l.u ≤ l.q)
leading c = range_at _ _ (fits c) 0 (omega arith)

whole : (c : Else-not-is_window) → genuine c.args.d.run ≡ true
whole c = let known : genuine_day c.args.d ≡ true = let by : let d = c.args.d in genuine_day d ≡ genuine d.run = by_run c.args.d (known_of _ _ c.from_zero.ensures c.if-not-from_zero.false) in
    by ∙ known_of _ _ c.is_genuine.ensures c.if-not-is_genuine.false in
    (day_is _ (known)).1

small : (c : Else-not-is_window) → day_size c.args.d ≤ 2 ^ 32
small c = omega (arith, (known_run _ (whole c)).0.at 0)

pub bounds-w-0 : goal.bounds-w-0
bounds-w-0 c = omega (arith, long (goal.at.bounds-w-0 c).Else-not-is_window)

pub bounds-w-1 : goal.bounds-w-1
bounds-w-1 c = omega (arith, long (goal.at.bounds-w-1 c).Else-not-is_window)

pub cut_limit-first-requires : goal.cut_limit-first-requires
cut_limit-first-requires c = omega (arith, leading (goal.at.cut_limit-first-requires c).Else-not-is_window, small (goal.at.cut_limit-first-requires c).Else-not-is_window)

first_small : (c : After-cut_limit-first) → c.cut_limit-first.result ≤ 2 ^ 32
first_small c = let small : day_size c.args.d ≤ 2 ^ 32 = let whole : genuine c.args.d.run ≡ true = let known : genuine_day c.args.d ≡ true = let by : let d = c.args.d in genuine_day d ≡ genuine d.run = by_run c.args.d (known_of _ _ c.from_zero.ensures c.if-not-from_zero.false) in
    by ∙ known_of _ _ c.is_genuine.ensures c.if-not-is_genuine.false in
    (day_is _ (known)).1 in omega (arith, (known_run _ (whole)).0.at 0) in
    let leading : let l = cut_at c.args.w.now 0 in (1 ≤ l.q) × (l.q ≤ 2 ^ 24) × (l.u ≤ l.q) = let fits : let a = c.args in is_window a.w.now (day_width a.d) ≡ true = let wide : let a = c.args in c.is_window.result ≡ is_window a.w.now (day_width a.d) = let a = c.args in c.is_window.ensures ∙ ap (is_window a.w.now) (add-one a.d.run.axes) in
    known_of _ _ (wide) c.if-not-is_window.false in range_at _ _ (fits) 0 (omega arith) in
    let l = leading in
    omega (arith, c.cut_limit-first.ensures, limit_within _ _ (day_size c.args.d) l.0 l.2, small)

pub slice_bounds-count_inside-count : goal.slice_bounds-count_inside-count
slice_bounds-count_inside-count c = omega (arith, long (goal.at.slice_bounds-count_inside-count c).Else-not-is_window)

pub slice_bounds-count_inside-start : goal.slice_bounds-count_inside-start
slice_bounds-count_inside-start c = omega (arith, long (goal.at.slice_bounds-count_inside-start c).Else-not-is_window)

rest : (w : List ℕ) → take (length w - 2) (drop 2 w) ≡ drop 2 w
rest w = take_all (length w - 2) (drop 2 w) (omega (arith, length-drop 2 w))

pub invariant_of-p : goal.invariant_of-p
invariant_of-p c = record { fit = known_arrays _ (whole (goal.at.invariant_of-p c).Else-not-is_window) }

pub count_inside-inside-requires : goal.count_inside-inside-requires
count_inside-inside-requires c =
    let a = c.args in
    (within_all 0 _ (omega (arith, first_small (goal.at.count_inside-inside-requires c).After-cut_limit-first)), rw (rest a.w.now) (window_room _ _ (window_rest _ _ (fits (goal.at.count_inside-inside-requires c).Else-not-is_window))))

pub bound-bound-requires : goal.bound-bound-requires
bound-bound-requires c =
    small (goal.at.bound-bound-requires c).Else-not-is_window

pub day_bound-requires : goal.day_bound-requires
day_bound-requires c = day_bound_fits _ (known (goal.at.day_bound-requires c).Else-not-is_genuine) c.bound-bound.ensures

pub returns : goal.returns
returns c =
    let a = c.args in
    let k = known (goal.at.returns c).Else-not-is_genuine in
    let f = fits (goal.at.returns c).Else-not-is_window in
    ap₂ (λ (inside bound : ℕ). counted 0 inside bound)
    (c.count_inside-inside.ensures ∙ day_count_in_arrays a.d a.w.now k f c.cut_limit-first.ensures (rest a.w.now))
    (c.day_bound.ensures ∙ day_bound_is a.d k c.bound-bound.ensures)
    ∙ sym (day_count_done a.d a.w.now k f)
