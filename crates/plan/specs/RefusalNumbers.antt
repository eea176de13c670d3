-- The number of each refusal. Definitions only.
use Rattle.std.specs.Prelude.{ℕ}
use Rattle.plan.specs.declared.refusal.Refusal.{Refusal}
use Rattle.plan.specs.declared.refusal.Refusal.TheVariants.{Truncated, BadFamily, BadAxisCount, BadBase, CommonFactor, BadDegree, NotPrimitive, EvenNumber, RepeatedPolynomial, TrailingData, OutOfRange, Exhausted, BufferTooSmall, BadWindow, InvalidState, BadSlots, SplitStart}

abbrev pub number_of : Refusal → ℕ
number_of Truncated = 1
number_of BadFamily = 2
number_of BadAxisCount = 3
number_of BadBase = 4
number_of CommonFactor = 5
number_of BadDegree = 6
number_of NotPrimitive = 7
number_of EvenNumber = 8
number_of RepeatedPolynomial = 9
number_of TrailingData = 10
number_of OutOfRange = 11
number_of Exhausted = 12
number_of BufferTooSmall = 13
number_of BadWindow = 14
number_of InvalidState = 15
number_of BadSlots = 16
number_of SplitStart = 17
