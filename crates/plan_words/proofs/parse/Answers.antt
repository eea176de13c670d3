-- The family's word, the number of axes, and the axes. Assumes nothing.
use mathlib.Core.Path.{ap, ◌∙◌}
use mathlib.Core.Bool.{true}
use Prim.Native.Nat.{ℕ}
use native.Mathlib.Omega.{arith}
use lib.ListN.{drop}
use Rattle.std.proofs.lemmas.Result.{err_from_is_err_and}
use Rattle.words.specs.Word.{words_in}
use Rattle.plan_words.specs.Parsed.{Unspelled}
use Rattle.plan_words.proofs.ParseLaws.{word_is, end_is, said_axes, wrong_axis, said_bases, wrong_base}
use Rattle.plan_words.proofs.parse.Goals as goal

pub returns-in_default : goal.returns-in_default
returns-in_default c =
    rw c.report.ensures (Unspelled.bad_family (rw (word_is c.find-w.ensures) at c.in_default.ensures), λ z. omega arith)

pub returns-then-axes-lt1 : goal.returns-then-axes-lt1
returns-then-axes-lt1 c =
    let e = end_is c.find-w.ensures in
    rw c.report-then-axes-lt1.ensures
    (Unspelled.bad_count (λ few. omega (arith, few, c.count-axes.ensures ∙ ap (λ (n : ℕ). words_in true (drop n c.args.line.now)) e)), λ z. omega arith)

pub returns-then-axes-gt6 : goal.returns-then-axes-gt6
returns-then-axes-gt6 c =
    let e = end_is c.find-w.ensures in
    rw c.report-then-axes-gt6.ensures
    (Unspelled.bad_count (λ few. omega (arith, few, c.count-axes.ensures ∙ ap (λ (n : ℕ). words_in true (drop n c.args.line.now)) e)), λ z. omega arith)

pub returns-in_err-polynomials : goal.returns-in_err-polynomials
returns-in_err-polynomials c =
    let e = end_is c.find-w.ensures in
    let p = err_from_is_err_and c.from_residual.result c.from_residual.ensures.1 in
    rw (p.1, p.2)
    (wrong_axis _ _ _ _ _ e (rw (word_is c.find-w.ensures) at c.in-Some.ensures.1)
    (c.count-axes.ensures ∙ ap (λ (n : ℕ). words_in true (drop n c.args.line.now)) e) (omega arith, omega arith) (omega arith) c.in_err-polynomials.ensures)

pub returns-then-family-eq2 : goal.returns-then-family-eq2
returns-then-family-eq2 c =
    let e = end_is c.find-w.ensures in
    said_axes _ _ _ _ _ e (rw (word_is c.find-w.ensures) at c.in-Some.ensures.1)
    (c.count-axes.ensures ∙ ap (λ (n : ℕ). words_in true (drop n c.args.line.now)) e) (omega arith, omega arith) _ _ (omega arith) c.in_ok-polynomials.ensures

pub returns-in_err-bases : goal.returns-in_err-bases
returns-in_err-bases c =
    let e = end_is c.find-w.ensures in
    let p = err_from_is_err_and c.from_residual-in_err-bases.result c.from_residual-in_err-bases.ensures.1 in
    rw (p.1, p.2)
    (wrong_base _ _ _ _ _ e (rw (word_is c.find-w.ensures) at c.in-Some.ensures.1)
    (c.count-axes.ensures ∙ ap (λ (n : ℕ). words_in true (drop n c.args.line.now)) e) (omega arith, omega arith) (c.in-Some.ensures.0, λ q. omega arith) c.in_err-bases.ensures)

pub returns : goal.returns
returns c =
    let e = end_is c.find-w.ensures in
    said_bases _ _ _ _ _ e (rw (word_is c.find-w.ensures) at c.in-Some.ensures.1)
    (c.count-axes.ensures ∙ ap (λ (n : ℕ). words_in true (drop n c.args.line.now)) e) (omega arith, omega arith) _ (c.in-Some.ensures.0, λ q. omega arith) c.in_ok-bases.ensures
