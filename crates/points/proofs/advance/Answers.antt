-- `points::advance` meets its contract. The loop's invariant: the first i words are the next index's numerators, and the others are still
-- those of the index before. Assumes nothing.
use mathlib.Core.Path.{◌≡◌, ap, ◌∙◌, subst}
use mathlib.Core.List.{List}
use Prim.Native.Nat.{ℕ, ◌+◌}
use native.Mathlib.Omega.{arith}
use lib.ListN.{get_or}
use Rattle.numbers.proofs.ListedLaws.{Over, over_whole}
use Rattle.points.specs.Arrays.{numerator_at, of_axis, point_at}
use Rattle.points.proofs.ArrayLaws.{axis_at_lem}
use Rattle.points.proofs.WordLaws.{point_at_word}
use Rattle.points.proofs.advance.Goals as goal

pub next_numerator-z-requires : goal.next_numerator-z-requires
next_numerator-z-requires c =
    let l = c.loop-i in (
      axis_at_lem c.args.p.fit l.i (omega arith),
      omega (arith, c.requires.0.at l.i),
      l.invariant.rest l.i (omega arith) ∙ ap (λ (x : List ℕ). get_or x l.i 0) c.requires.1
          ∙ point_at_word c.args.p.family c.args.p.axes c.args.p.bases.now c.args.p.directions.now (λ k. of_axis c.args.starts.now k + c.args.t) l.i (omega arith),
    )

pub returns : goal.returns
unfolding point_at
returns c =
    let a = c.args in
    let l = c.loop-i in
    let e : l.i ≡ a.p.axes = omega arith in
    let f = numerator_at a.p.family a.p.bases.now a.p.directions.now in
    let here : ℕ → ℕ = λ i. f (of_axis a.starts.now i + a.t) i in
    let next : ℕ → ℕ = λ i. f (of_axis a.starts.now i + a.t + 1) i in
    over_whole 6 here next a.p.axes l.y c.args.p.fit.few
    (subst (λ (x : List ℕ). Over next x l.y a.p.axes) c.requires.1 (subst (Over next a.x l.y) e l.invariant))
