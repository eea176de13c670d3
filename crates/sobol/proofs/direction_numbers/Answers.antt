-- `sobol::direction_numbers` meets its contract: the m's of the recurrence are odd and below their powers of two, as `scale` asks. Assumes nothing.
use mathlib.Core.Path.{sym, ap, ◌∙◌, subst}
use Rattle.sobol.specs.Directions.{scaled, directions, AllOddBelow}
use Rattle.sobol.proofs.DirectionLaws.{m_list_odd_below}
use Rattle.sobol.proofs.direction_numbers.Goals as goal

pub scale-requires : goal.scale-requires
scale-requires c =
    subst (AllOddBelow 32) (sym c.m_list.ensures) (m_list_odd_below c.args.d c.args.p c.args.given.now c.requires.2 32)

pub returns : goal.returns
unfolding directions
returns c = c.scale.ensures ∙ ap (scaled 0) c.m_list.ensures
