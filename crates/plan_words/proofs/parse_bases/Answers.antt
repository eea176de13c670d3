-- The words so far are bases. Assumes nothing.
use mathlib.Core.Path.{sym, ap, ◌∙◌}
use native.Mathlib.Omega.{arith}
use Rattle.words.specs.Decimal.{number_of}
use Rattle.plan_words.proofs.ParseLaws.{first_place, next_place, here, no_bases, base_next, base_wrong, bases_all}
use Rattle.plan_words.proofs.parse_bases.Goals as goal

pub loop-i-init : goal.loop-i-init
loop-i-init c = (first_place _ _ (omega arith), no_bases _ _)

pub returns-in_default : goal.returns-in_default
returns-in_default c =
    let l = c.loop-i in
    rw c.report.ensures
    (base_wrong l.invariant.1 _ (omega arith) (λ b e. c.in_default.ensures b (ap number_of (here l.invariant.0 c.find-w.ensures) ∙ e)))

pub loop-i-preserved : goal.loop-i-preserved
loop-i-preserved c =
    let l = c.loop-i in (
      next_place l.invariant.0 c.find-w.ensures,
      base_next l.invariant.1 _ (omega arith) (sym (ap number_of (here l.invariant.0 c.find-w.ensures)) ∙ c.in-Some.ensures),
    )

pub returns : goal.returns
returns c =
    let l = c.loop-i in bases_all l.invariant.1 _ (omega arith)
