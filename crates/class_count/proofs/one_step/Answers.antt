-- `class_count::one_step` meets its contract. Assumes nothing.
use mathlib.Core.Path.{refl, ◌∙◌}
use native.Mathlib.Omega.{arith}
use Rattle.strips.proofs.HeldLaws.{held_less}
use Rattle.strips.proofs.TableLaws.{passes_out, passes_in}
use Rattle.class_count.proofs.one_step.Goals as goal

pub returns-then-not-within_rest : goal.returns-then-not-within_rest
returns-then-not-within_rest c = let a = c.args in
    passes_out a.l.now a.rows.now a.s a.v a.u a.x a.o c.within_rest.ensures c.if-not-within_rest.true

pub inside_step-requires : goal.inside_step-requires
inside_step-requires c = (held_less c.requires.0 c.args.s (omega arith), c.requires.4)

pub returns : goal.returns
returns c = let a = c.args in
    c.inside_step.ensures
    ∙ passes_in a.l.now a.rows.now a.s a.v a.u a.x a.o c.within_rest.ensures c.if-not-within_rest.false refl
