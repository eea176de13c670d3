-- `primitive::powers_of_x` meets its contract. The loop's invariant: the powers are x to the exponents' digits passed. Assumes nothing.
use Rattle.numbers.specs.Listed.{Begins}
use Rattle.primitive.specs.Powers.{power_from}
use Rattle.primitive.proofs.powers_of_x.Given as goal

abbrev pub invariant-loop-place : goal.invariant-loop-place
invariant-loop-place l = Begins (power_from l.d l.p l.exponents l.place) 5 l.powers
