-- The digits counted and those of what is left are together the digits of n. Assumes nothing.
use mathlib.Core.Path.{ap}
use native.Mathlib.Nat.{zero-add, div-lt_self}
use native.Mathlib.Omega.{arith}
use Rattle.numbers.specs.Digits.{digit_count}
use Rattle.numbers.proofs.DigitLaws.{digit_count_step, digit_count_zero, digit_count_word}
use Rattle.numbers.proofs.digit_count.Goals as goal

pub loop-rest-init : goal.loop-rest-init
loop-rest-init c = zero-add _

pub overflow_add-k : goal.overflow_add-k
overflow_add-k c =
    let a = c.args in
    omega (
      arith,
      digit_count_step a.b c.loop-rest.rest (omega arith) (λ e. omega arith),
      digit_count_word a.b a.n (omega arith) (omega arith),
    )

pub loop-rest-smaller : goal.loop-rest-smaller
loop-rest-smaller c = div-lt_self (omega arith) (omega arith)

pub loop-rest-preserved : goal.loop-rest-preserved
loop-rest-preserved c = omega (arith, digit_count_step c.args.b c.loop-rest.rest (omega arith) (λ e. omega arith))

pub returns : goal.returns
returns c =
    let b = c.args.b in
    omega (arith, ap (digit_count b) {x = c.loop-rest.rest} {y = 0} (omega arith), digit_count_zero b)
