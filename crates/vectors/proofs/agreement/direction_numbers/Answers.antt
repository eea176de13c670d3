-- The given m's are odd and below their powers of two. Assumes nothing.
use borrow.Author.Rules.{rules}
use Rattle.vectors.proofs.GivenLaws.{given_odd_below}
use Rattle.vectors.proofs.agreement.direction_numbers.Goals as goal

pub direction_numbers-requires : goal.direction_numbers-requires
direction_numbers-requires c = (search rules, search rules, given_odd_below)
