-- `class_count::inside_step` meets its contract. Assumes nothing.
use mathlib.Core.Path.{sym, ap, ◌∙◌}
use Rattle.numbers.specs.Count.{bit}
use Rattle.class_count.proofs.inside_step.Goals as goal

pub returns-then-is_inside : goal.returns-then-is_inside
returns-then-is_inside c = ap bit (sym c.if-is_inside.true ∙ c.is_inside.ensures)

pub returns-else-is_inside : goal.returns-else-is_inside
returns-else-is_inside c = ap bit (sym c.if-is_inside.false ∙ c.is_inside.ensures)
