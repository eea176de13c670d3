-- After i turns the first i words are written, 8 bytes each. Assumes nothing.
use mathlib.Core.Path.{◌∙◌}
use native.Mathlib.Omega.{arith}
use Rattle.big_endian.proofs.ByteLaws.{words_none, words_next}
use Rattle.big_endian.proofs.put_words.Goals as goal

pub loop-i-init : goal.loop-i-init
loop-i-init c = words_none _

pub loop-i-preserved : goal.loop-i-preserved
loop-i-preserved c =
    let a = c.args in
    c.put_word.ensures ∙ rw c.loop-i.invariant (words_next a.out.now a.words.now c.loop-i.i _ (omega arith) (omega arith))
