-- 0 is one axis, and any other word is given or none. Assumes nothing.
use Rattle.std.proofs.Common.{◌≡◌, Err, sym, ◌∙◌, true≢false, arith}
use Rattle.words.specs.Word.{leading}
use Rattle.axis_words.specs.Spelled.{colon, is_not}
use Rattle.axis_words.proofs.PartLaws.{is_word, kept_none, no_colon, zero_axis, other_axis}
use Rattle.axis_words.proofs.parse_axis.Goals as goal

pub returns-then-eq : goal.returns-then-eq
returns-then-eq c = (kept_none _ _, zero_axis _ c.args.i c.args.ms.now ((is_word _ _ _ _ c.as_slice.ensures c.eq.ensures).0 c.if-eq.true))

pub returns-then-end-word : goal.returns-then-end-word
returns-then-end-word c =
    let word = c.args.word.now in
    let e : c.part_end-end.result ≡ leading (is_not colon) word = omega (arith, c.part_end-end.ensures.0) in (
      kept_none _ _,
      other_axis c.args.i c.args.ms.now (Err c.wrong.result) (λ z. true≢false (sym ((is_word _ _ _ _ c.as_slice.ensures c.eq.ensures).1 z) ∙ c.if-eq.false))
          (no_colon word c.part_end-end.result e (omega arith), λ z. omega arith),
    )

pub returns : goal.returns
returns c =
    let g = c.parse_given in (
      g.ensures.0,
      other_axis c.args.i g.new.ms g.result (λ z. true≢false (sym ((is_word _ _ _ _ c.as_slice.ensures c.eq.ensures).1 z) ∙ c.if-eq.false)) g.ensures.1,
    )
