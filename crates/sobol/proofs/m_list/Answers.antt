-- `sobol::m_list` meets its contract. The loop's invariant: the first i of the array are m_1 to m_i, which are odd and below their powers of two, as
-- the next one asks. Assumes nothing.
use mathlib.Core.Path.{refl, ◌∙◌}
use native.Mathlib.Omega.{arith}
use lib.ListN.{length-set}
use Rattle.sobol.specs.Directions.{m_list}
use Rattle.sobol.proofs.DirectionLaws.{m_list_turn, odd_below_front}
use Rattle.sobol.proofs.m_list.Goals as goal

pub loop-i-init : goal.loop-i-init
unfolding m_list
loop-i-init c = (refl, refl)

pub m_next-x-requires : goal.m_next-x-requires
m_next-x-requires c =
    let l = c.loop-i in
    (omega arith, omega arith, omega arith, odd_below_front c.args.d c.args.p c.args.given.now l.i l.m l.invariant.1 c.requires.2)

pub loop-i-preserved : goal.loop-i-preserved
loop-i-preserved c =
    let a = c.args in
    let l = c.loop-i in (
      length-set l.m l.i _ ∙ l.invariant.0,
      m_list_turn a.d a.p a.given.now l.i l.m l.invariant.1 c.m_next-x.result (omega arith) c.m_next-x.ensures,
    )
