-- The first word that is the same, or none. Assumes nothing.
use mathlib.Core.Path.{sym, ◌∙◌}
use mathlib.Core.Bool.{true≢false}
use native.Mathlib.Omega.{arith}
use Rattle.axis_words.proofs.PartLaws.{is_word}
use Rattle.plan_words.specs.Says.{family_words}
use Rattle.plan_words.proofs.ParseLaws.{no_family}
use Rattle.plan_words.proofs.family_of.Goals as goal

pub returns-then-eq : goal.returns-then-eq
unfolding family_words
returns-then-eq c = (omega arith, (is_word _ _ _ _ c.as_slice.ensures c.eq.ensures).0 c.if-eq.true)

pub returns-then-eq-2 : goal.returns-then-eq-2
unfolding family_words
returns-then-eq-2 c = (omega arith, (is_word _ _ _ _ c.as_slice-2.ensures c.eq-2.ensures).0 c.if-eq-2.true)

pub returns-then-eq-3 : goal.returns-then-eq-3
unfolding family_words
returns-then-eq-3 c = (omega arith, (is_word _ _ _ _ c.as_slice-3.ensures c.eq-3.ensures).0 c.if-eq-3.true)

pub returns-then-eq-4 : goal.returns-then-eq-4
unfolding family_words
returns-then-eq-4 c = (omega arith, (is_word _ _ _ _ c.as_slice-4.ensures c.eq-4.ensures).0 c.if-eq-4.true)

pub returns : goal.returns
unfolding family_words
returns c =
    no_family _
    (λ e. true≢false (sym ((is_word _ _ _ _ c.as_slice.ensures c.eq.ensures).1 e) ∙ c.if-eq.false))
    (λ e. true≢false (sym ((is_word _ _ _ _ c.as_slice-2.ensures c.eq-2.ensures).1 e) ∙ c.if-eq-2.false))
    (λ e. true≢false (sym ((is_word _ _ _ _ c.as_slice-3.ensures c.eq-3.ensures).1 e) ∙ c.if-eq-3.false))
    (λ e. true≢false (sym ((is_word _ _ _ _ c.as_slice-4.ensures c.eq-4.ensures).1 e) ∙ c.if-eq-4.false))
