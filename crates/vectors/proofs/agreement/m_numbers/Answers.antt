-- The given m's are odd and below their powers of two. Assumes nothing.
use borrow.Author.Rules.{rules}
use Rattle.vectors.proofs.GivenLaws.{given_odd_below}
use Rattle.vectors.proofs.agreement.m_numbers.Goals as goal

pub m_list-requires : goal.m_list-requires
m_list-requires c = (search rules, search rules, given_odd_below)
