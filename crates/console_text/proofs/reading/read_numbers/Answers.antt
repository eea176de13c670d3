-- The words up to the one at hand are read.
use Rattle.std.proofs.Common.{◌≡◌, length, sym, refl, ap, ◌∙◌, arith}
use Rattle.console_text.specs.Reading.{word_number, number_at}
use Rattle.console_text.proofs.ReadingLaws.{numbers_same, numbers_other, unread, reading_none, reading_next, reading_none_here, reading_all, reading_values}
use Rattle.console_text.proofs.reading.read_numbers.Goals as goal
use Rattle.console_text.proofs.reading.read_numbers.Goals.{After-decimal}

-- what was read is the number of the word at hand
read_here : (d : After-decimal)
    → d.decimal.result ≡ number_at d.args.rest.now d.loop-i.at
unfolding word_number
read_here d = d.decimal.ensures ∙ ap (word_number d.args.rest.now) d.find-w.ensures.is

pub returns-then-k-out : goal.returns-then-k-out
returns-then-k-out c =
    record { is = numbers_other _ _ _ c.count-k.ensures (λ e. absurd (omega arith)); values = λ h. absurd (unread _ h) }

pub loop-i-init : goal.loop-i-init
loop-i-init c = reading_none _ _ _ refl

pub returns-in-Err : goal.returns-in-Err
returns-in-Err c =
    let a = c.args in
    let e = sym (read_here (goal.at.returns-in-Err c).After-decimal) ∙ c.in-Err.is in
    record {
      is = sym (numbers_same a.rest.now (length a.out.now) (omega arith) ∙ reading_none_here _ _ c.loop-i.invariant (omega arith) _ e);
      values = λ h. absurd (unread _ h);
    }

pub loop-i-preserved : goal.loop-i-preserved
loop-i-preserved c =
    let f = c.find-w.ensures in
    let e = sym (read_here (goal.at.loop-i-preserved c).After-decimal) ∙ c.in-Ok.is in
    reading_next _ _ c.loop-i.invariant (omega arith) _ _ f.is e f.high

pub returns : goal.returns
returns c =
    let a = c.args in
    record {
      is = sym (numbers_same a.rest.now (length a.out.now) (omega arith) ∙ reading_all _ _ c.loop-i.invariant (omega arith));
      values = λ h. reading_values _ _ c.loop-i.invariant (omega arith);
    }
