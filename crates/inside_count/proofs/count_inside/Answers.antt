-- `inside_count::count_inside` meets its contract: so many of the first i points are inside. Assumes nothing.
use mathlib.Core.Path.{◌≡◌, sym, ap, ap₂, ◌∙◌}
use Prim.Native.Nat.{ℕ, ◌+◌, ◌-◌, ◌≤◌, ◌<◌}
use native.Mathlib.Omega.{arith}
use Rattle.numbers.specs.Count.{count}
use Rattle.points.specs.Arrays.{of_axis}
use Rattle.points.specs.Run.{index_at}
use Rattle.points.proofs.RunLaws.{within_less, six_at, within_on}
use Rattle.window.specs.Walking.{inside_from}
use Rattle.numbers.proofs.CountLaws.{count_le}
use Rattle.inside_count.proofs.FlagLaws.{parts_join, count_none}
use Rattle.inside_count.proofs.count_inside.Goals as goal
use Rattle.inside_count.proofs.count_inside.Goals.{After-count_part-t, After-min-end}

-- a part is not empty
further : (c : After-min-end) → c.loop-i.i < c.min-end.result
further c = omega arith

-- the count up to the part's end, which is no more than so many
next : (c : After-count_part-t)
    → let a = c.args in
    let e = c.min-end.result in
    let p = inside_from a.p.family a.p.bases.now a.p.directions.now a.w.now a.p.axes (of_axis a.ns.now) in
    (c.loop-i.t + c.count_part-t.result ≡ count p e) × (count p e ≤ e) × (e ≤ a.k)
unfolding index_at
next c = let further : c.loop-i.i < c.min-end.result = omega arith in
    let a = c.args in
    let l = c.loop-i in
    let at = c.indexes-at in
    let e = c.min-end.result in
    let n = of_axis a.ns.now in
    let p = inside_from a.p.family a.p.bases.now a.p.directions.now a.w.now a.p.axes n in
    let on : (i : ℕ) → i < a.p.axes → of_axis at.result i ≡ n i + l.i =
    λ i h. rw (at.ensures a.k) (six_at c.requires.0 a.k l.i i (omega (arith, c.args.p.fit.few))) in
    let m : l.i + (e - l.i) ≡ e = omega (arith, further) in (
      ap₂ ◌+◌ l.invariant.1 c.count_part-t.ensures
          ∙ sym (parts_join a.p.family a.p.bases.now a.p.directions.now a.w.now n a.p.axes l.i (e - l.i) (of_axis at.result) on)
          ∙ ap (count p) m,
      count_le p e,
      omega arith,
    )

pub loop-i-init : goal.loop-i-init
loop-i-init c = (omega arith, count_none _)

pub overflow_add-i : goal.overflow_add-i
overflow_add-i c = omega (arith, c.requires.0.at 0)

pub indexes-at-requires : goal.indexes-at-requires
indexes-at-requires c = within_less c.requires.0 (omega arith)

pub overflow_sub-end : goal.overflow_sub-end
overflow_sub-end c = omega (arith, further (goal.at.overflow_sub-end c).After-min-end)

pub count_part-t-requires : goal.count_part-t-requires
count_part-t-requires c =
    let k = c.args.k in
    let e : c.min-end.result ≤ k = omega arith in
    let within = within_on c.requires.0 k c.loop-i.i in
    (rw (c.indexes-at.ensures k) (within (omega (arith, e, further (goal.at.count_part-t-requires c).After-min-end))), omega arith, c.requires.1)

pub overflow_add-t : goal.overflow_add-t
overflow_add-t c = omega (arith, next c)

pub loop-i-smaller : goal.loop-i-smaller
loop-i-smaller c = omega (arith, (next c).2, further (goal.at.loop-i-smaller c).After-min-end)

pub loop-i-preserved : goal.loop-i-preserved
loop-i-preserved c = ((next c).2, (next c).0)

pub returns : goal.returns
returns c =
    let a = c.args in
    let e : c.loop-i.i ≡ a.k = omega arith in
    c.loop-i.invariant.1 ∙ ap (count (inside_from a.p.family a.p.bases.now a.p.directions.now a.w.now a.p.axes (of_axis a.ns.now))) e
