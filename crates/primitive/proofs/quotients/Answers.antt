-- `primitive::quotients` meets its contract: at each degree the test of the four numbers computes to true. Assumes nothing.
use native.Mathlib.Omega.{arith}
use mathlib.Core.Path.{refl}
use Rattle.numbers.specs.Count.{each}
use Rattle.binary.proofs.OrderLaws.{is_divided, are_quotients, quotients_at}
use Rattle.primitive.proofs.quotients.Goals as goal

pub returns-in-2 : goal.returns-in-2
unfolding each is_divided are_quotients
returns-in-2 c = quotients_at 2 c.in-2.is refl

pub returns-in-3 : goal.returns-in-3
unfolding each is_divided are_quotients
returns-in-3 c = quotients_at 3 c.in-3.is refl

pub returns-in-4 : goal.returns-in-4
unfolding each is_divided are_quotients
returns-in-4 c = quotients_at 4 c.in-4.is refl

pub returns-in-5 : goal.returns-in-5
unfolding each is_divided are_quotients
returns-in-5 c = quotients_at 5 c.in-5.is refl

pub returns-in-6 : goal.returns-in-6
unfolding each is_divided are_quotients
returns-in-6 c = quotients_at 6 c.in-6.is refl

pub returns-in-7 : goal.returns-in-7
unfolding each is_divided are_quotients
returns-in-7 c = quotients_at 7 c.in-7.is refl

pub returns-in-8 : goal.returns-in-8
unfolding each is_divided are_quotients
returns-in-8 c = quotients_at 8 c.in-8.is refl

pub returns-in-9 : goal.returns-in-9
unfolding each is_divided are_quotients
returns-in-9 c = quotients_at 9 c.in-9.is refl

pub returns-in-10 : goal.returns-in-10
unfolding each is_divided are_quotients
returns-in-10 c = quotients_at 10 c.in-10.is refl

pub returns-in-11 : goal.returns-in-11
unfolding each is_divided are_quotients
returns-in-11 c = quotients_at 11 c.in-11.is refl

pub returns-in-12 : goal.returns-in-12
unfolding each is_divided are_quotients
returns-in-12 c = quotients_at 12 c.in-12.is refl

-- the only degree left is 1
pub returns-in_default : goal.returns-in_default
unfolding each is_divided are_quotients
returns-in_default c = quotients_at 1 (omega arith) refl
