-- `sobol::m_rule` meets its contract. The loop's invariant: x is m_(i+1-d) xor the terms before j. A shift loses nothing, since the m's are below
-- their powers of two. Assumes nothing.
use mathlib.Core.Path.{◌≡◌, refl, ap, ◌∙◌}
use Prim.Native.Nat.{◌+◌, ◌-◌}
use native.Mathlib.Omega.{arith}
use Rattle.sobol.specs.Directions.{m_terms}
use Rattle.sobol.proofs.DirectionLaws.{terms_set, terms_clear, m_rule_terms}
use Rattle.sobol.proofs.m_rule.Goals as goal
use Rattle.sobol.proofs.m_rule.Goals.{then-p-d-eq1, else-p-d-eq1}

pub loop-j-init : goal.loop-j-init
unfolding m_terms
loop-j-init c = refl

pub loop-j-preserved : goal.loop-j-preserved
loop-j-preserved c =
    let a = c.args in
    let l = c.loop-j in
    let e : l.j - 1 + 1 ≡ l.j = omega arith in
    let f : l.j ≡ l.j + 1 - 1 = omega arith in
    let h : c.if-p-d-eq1.x ≡ m_terms a.d a.p a.m.now a.i l.j =
    elim c.if-p-d-eq1.branch [
      | then-p-d-eq1 w ↦ w.x-is ∙ (rw e at (terms_set a.d a.p a.m.now a.i (l.j - 1) l.x c.requires.4 (omega arith) (omega arith) l.invariant (rw e w.if-p-d-eq1.true)))
      | else-p-d-eq1 w ↦ w.x-is ∙ (rw e at (terms_clear a.d a.p a.m.now a.i (l.j - 1) l.x l.invariant (rw e w.if-p-d-eq1.false)))
    ] in
    h ∙ ap (m_terms a.d a.p a.m.now a.i) f

pub returns : goal.returns
returns c =
    let a = c.args in
    let l = c.loop-j in
    let e : l.j - 1 ≡ a.d = omega arith in
    l.invariant ∙ ap (m_terms a.d a.p a.m.now a.i) e ∙ m_rule_terms a.d a.p a.m.now a.i c.requires.0
