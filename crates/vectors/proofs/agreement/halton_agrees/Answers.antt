-- `vectors::agreement::halton_agrees` ends without a fault: with no table lent, a jump is what the step starts from. Assumes nothing.
use mathlib.Core.Path.{◌∙◌}
use native.Mathlib.Omega.{arith}
use borrow.Author.Rules.{rules}
use Rattle.halton.proofs.ImageLaws.{numerator_by_family}
use Rattle.vectors.proofs.agreement.halton_agrees.Goals as goal

pub step-requires : goal.step-requires
step-requires c =
    (search rules, search rules, c.jump-before.ensures ∙ numerator_by_family _ _ (omega arith) _)
