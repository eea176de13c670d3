-- Four more factors reach 2^32; then two, then one. Assumes nothing.
use Prim.Native.Nat.{◌*◌}
use native.Mathlib.Nat.{mul_assoc}
use native.Mathlib.Omega.{arith}
use Rattle.numbers.proofs.DepthLaws.{fourth_fits, power_first, power_second, Near, near_raised, near_last}
use Rattle.numbers.proofs.first_weight.Goals as goal
use Rattle.numbers.proofs.first_weight.Goals.{After-power_below, After-raised}

four : (c : After-power_below) → let b = c.args.b in Near b (b * b * (b * b)) c.power_below.result
four c =
    let b = c.args.b in
    let e = c.power_below.ensures in
    record { digits = e.0.0; is = e.0.1; below = e.1; reaches = rw (← mul_assoc (b * b) b b) e.2 }

two : (c : After-raised) → let b = c.args.b in Near b (b * b) c.raised.result
two c = near_raised 2 (power_second c.args.b) (four c.before) c.raised.ensures

pub power_below-requires : goal.power_below-requires
power_below-requires c = c.requires

pub overflow_mul-b : goal.overflow_mul-b
overflow_mul-b c = omega (arith, (fourth_fits c.requires.1).0)

pub raised-requires : goal.raised-requires
raised-requires c = ((four c).below, (fourth_fits c.requires.1).0)

pub raised-requires-2 : goal.raised-requires-2
raised-requires-2 c = ((two c).below, omega arith)

pub returns : goal.returns
returns c =
    near_last c.requires.0 (near_raised 1 (power_first c.args.b) (two (goal.at.returns c).After-raised) c.raised-2.ensures)
