-- `points::point` meets its contract. The loop's invariant: the first i words are the numerators of the first i axes, and zeros follow.
-- Assumes nothing.
use mathlib.Core.Path.{◌≡◌, refl, ap, ◌∙◌}
use mathlib.Core.List.{List}
use Prim.Native.Nat.{ℕ, ◌+◌}
use native.Mathlib.Omega.{arith}
use lib.ListN.{get_or, set, length-set}
use Rattle.numbers.specs.Listed.{listed, padded}
use Rattle.numbers.proofs.ListedLaws.{listed_store}
use Rattle.points.specs.Arrays.{numerator_at, point_at}
use Rattle.points.proofs.point.Goals as goal

pub loop-i-init : goal.loop-i-init
unfolding listed padded
loop-i-init c = (refl, refl)

pub loop-i-preserved : goal.loop-i-preserved
loop-i-preserved c =
    let l = c.loop-i in
    let f : ℕ → ℕ = λ k. numerator_at c.args.p.family c.args.p.bases.now c.args.p.directions.now (get_or c.args.starts.now k 0 + c.args.t) k in (
      length-set l.x l.i _ ∙ l.invariant.0,
      ap (λ (x : List ℕ). set x l.i c.numerator-y.result) l.invariant.1 ∙ listed_store 6 f l.i c.numerator-y.result (omega (arith, c.args.p.fit.few)) c.numerator-y.ensures,
    )

pub returns : goal.returns
unfolding point_at
returns c =
    let a = c.args in
    let l = c.loop-i in
    let e : l.i ≡ a.p.axes = omega arith in
    l.invariant.1 ∙ ap (λ (m : ℕ). padded 6 (listed (λ k. numerator_at a.p.family a.p.bases.now a.p.directions.now (get_or a.starts.now k 0 + a.t) k) m)) e
