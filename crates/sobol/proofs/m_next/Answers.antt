-- `sobol::m_next` meets its contract, by the three cases of the definition: given, degree 0, and the recurrence. Assumes nothing.
use mathlib.Core.Path.{sym, ◌∙◌}
use Rattle.sobol.proofs.DirectionLaws.{m_next_given, m_next_rule, m_rule_none}
use Rattle.sobol.proofs.m_next.Goals as goal

pub returns-then-i-d : goal.returns-then-i-d
returns-then-i-d c =
    let a = c.args in
    sym (m_next_given a.d a.p a.given.now a.i a.m.now c.if-i-d.true)

pub returns-then-d-eq0 : goal.returns-then-d-eq0
returns-then-d-eq0 c =
    let a = c.args in
    m_rule_none a.d a.p a.m.now a.i c.if-d-eq0.true
    ∙ sym (m_next_rule a.d a.p a.given.now a.i a.m.now c.if-i-d.false)

pub returns : goal.returns
returns c =
    let a = c.args in
    c.m_rule.ensures ∙ sym (m_next_rule a.d a.p a.given.now a.i a.m.now c.if-i-d.false)
