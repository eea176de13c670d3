-- `primitive::turned` meets its contract: the square of the power has twice its exponent, and the digit at the place is added. Assumes nothing.
use mathlib.Core.Path.{◌≡◌, sym, ap, ◌∙◌}
use Prim.Native.Nat.{◌+◌, ◌*◌, ◌/◌, ◌^◌}
use native.Mathlib.Omega.{arith}
use Rattle.binary.specs.Power.{power_of_x}
use Rattle.binary.proofs.PolynomialLaws.{power_of_x_lt}
use Rattle.binary.proofs.PowerLaws.{power_next}
use Rattle.primitive.proofs.TopLaws.{top_is, at_most}
use Rattle.primitive.proofs.FourLaws.{squared_at}
use Rattle.primitive.proofs.PlaceLaws.{place_one, place_zero}
use Rattle.primitive.proofs.turned.Goals as goal
use Rattle.primitive.proofs.turned.Goals.{After-by_fours-square}

-- the square of the power of the digits above
squared : (c : After-by_fours-square) →
    let a = c.args in
    c.by_fours-square.result ≡ power_of_x (2 ^ a.d) a.p (a.e / 2 ^ (a.place + 1) * 2)
squared c = squared_at c.requires.0 (c.args.e / 2 ^ (c.args.place + 1)) c.requires.2 c.by_fours-square.ensures

pub times_x-requires : goal.times_x-requires
times_x-requires c =
    let below = power_of_x_lt c.args.d c.args.p c.requires.0.least c.requires.0.degree (c.args.e / 2 ^ (c.args.place + 1) * 2) in
    omega (arith, squared (goal.at.times_x-requires c).After-by_fours-square, below, at_most c.args.d c.requires.0.most)

pub returns-then-e-place-eq1 : goal.returns-then-e-place-eq1
returns-then-e-place-eq1 c =
    let top = 2 ^ c.args.d in
    rw (top_is c.args.d c.requires.0.most, squared (goal.at.returns-then-e-place-eq1 c).After-by_fours-square) at c.times_x.ensures
    ∙ power_next top c.args.p (c.args.e / 2 ^ (c.args.place + 1) * 2)
    ∙ ap (power_of_x top c.args.p) (sym (place_one c.args.e c.args.place c.if-e-place-eq1.true))

pub returns : goal.returns
returns c =
    let a = c.args in
    squared (goal.at.returns c).After-by_fours-square ∙ ap (power_of_x (2 ^ a.d) a.p) (sym (place_zero a.e a.place c.if-e-place-eq1.false))
