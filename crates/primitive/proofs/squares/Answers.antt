-- `primitive::squares` meets its contract. The loop's invariant: the words passed are squares, and x is the next. Assumes nothing.
use mathlib.Core.Path.{◌≡◌, refl, ap, ap₂, ◌∙◌}
use Prim.Native.Nat.{ℕ, ◌+◌, ◌*◌, ◌^◌}
use native.Mathlib.Omega.{arith}
use Rattle.binary.specs.Polynomial.{times_x}
use Rattle.binary.specs.Power.{power_of_x, Squares}
use Rattle.binary.proofs.PolynomialLaws.{power_of_x_lt}
use Rattle.binary.proofs.PowerLaws.{power_next}
use Rattle.numbers.proofs.ListedLaws.{begins_none, begins_more}
use Rattle.primitive.proofs.TopLaws.{top_is, at_most}
use Rattle.primitive.proofs.squares.Goals as goal
use Rattle.primitive.proofs.squares.Goals.{After-times_x}

pub loop-w-init : goal.loop-w-init
unfolding power_of_x
loop-w-init c = (refl, begins_none _ _)

pub times_x-requires : goal.times_x-requires
times_x-requires c =
    omega (arith, c.loop-w.invariant.0, power_of_x_lt c.args.d c.args.p c.requires.0 c.requires.2 (c.loop-w.w-index * 2), at_most c.args.d c.requires.1)

-- x times the square
between : (c : After-times_x) →
    let a = c.args in
    c.times_x.result ≡ power_of_x (2 ^ a.d) a.p (c.loop-w.w-index * 2 + 1)
between c =
    let l = c.loop-w in
    c.times_x.ensures ∙ ap₂ (λ (t r : ℕ). times_x t c.args.p r) (top_is c.args.d c.requires.1) l.invariant.0
    ∙ power_next (2 ^ c.args.d) c.args.p (l.w-index * 2)

pub times_x-x-requires : goal.times_x-x-requires
times_x-x-requires c =
    omega (arith, between c, power_of_x_lt c.args.d c.args.p c.requires.0 c.requires.2 (c.loop-w.w-index * 2 + 1), at_most c.args.d c.requires.1)

pub loop-w-preserved : goal.loop-w-preserved
loop-w-preserved c =
    let d = c.args.d in
    let p = c.args.p in
    let l = c.loop-w in
    let more : l.w-index * 2 + 1 + 1 ≡ (l.w-index + 1) * 2 = omega arith in (
      rw (top_is d c.requires.1, between (goal.at.loop-w-preserved c).After-times_x) at c.times_x-x.ensures ∙ power_next (2 ^ d) p (l.w-index * 2 + 1) ∙ ap (power_of_x (2 ^ d) p) more,
      begins_more l.invariant.1 (omega arith) l.invariant.0,
    )

pub returns : goal.returns
unfolding Squares
returns c = λ k h. c.loop-w.invariant.1.at k (omega arith)
