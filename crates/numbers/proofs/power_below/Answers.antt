-- The loop's number is a power of b below 2^32, and so is the next one while the test holds. Assumes nothing.
use mathlib.Core.Path.{sym}
use native.Mathlib.Nat.{pow-zero}
use native.Mathlib.Omega.{arith}
use Rattle.numbers.proofs.DigitLaws.{pow_pos}
use Rattle.numbers.proofs.DepthLaws.{rising_nears, fourth_fits, fourth_grows, fourth_product, fourth_more}
use Rattle.numbers.proofs.power_below.Goals as goal

pub overflow_mul-fourth : goal.overflow_mul-fourth
overflow_mul-fourth c = omega (arith, fourth_fits c.requires.1)

pub overflow_mul-fourth-2 : goal.overflow_mul-fourth-2
overflow_mul-fourth-2 c = omega (arith, fourth_fits c.requires.1)

pub overflow_mul-fourth-3 : goal.overflow_mul-fourth-3
overflow_mul-fourth-3 c = omega (arith, fourth_fits c.requires.1)

pub loop-p-init : goal.loop-p-init
loop-p-init c = ((0, sym (pow-zero c.args.b)), omega arith)

pub overflow_mul-p : goal.overflow_mul-p
overflow_mul-p c = omega (arith, fourth_product c.requires.1 c.loop-p.invariant.1)

pub loop-p-smaller : goal.loop-p-smaller
loop-p-smaller c =
    let i = c.loop-p.invariant in
    rising_nears (omega (arith, fourth_grows c.requires.0)) (omega (arith, i.0.1, pow_pos c.args.b i.0.0 (omega arith))) i.1

pub loop-p-preserved : goal.loop-p-preserved
loop-p-preserved c = let i = c.loop-p.invariant.0 in ((_, fourth_more c.args.b i.0 i.1), omega arith)

pub returns : goal.returns
returns c = let i = c.loop-p.invariant in (i.0, i.1, omega arith)
