-- The commas so far, with those from the byte at hand on, are all. Assumes nothing.
use Rattle.std.proofs.Common.{true, false, get_or, arith, eq-eqb, ne_eqb}
use Rattle.axis_words.proofs.PartLaws.{comma_more, comma_end}
use Rattle.axis_words.proofs.comma_count.Goals as goal
use Rattle.axis_words.proofs.comma_count.Goals.{then-b-eq44, else-b-eq44}

pub loop-b-preserved : goal.loop-b-preserved
loop-b-preserved c =
    let text = c.args.text.now in
    let more = comma_more text c.loop-b.b-index (omega arith) in
    elim c.if-b-eq44.branch [
      | then-b-eq44 w ↦ (omega arith, omega (arith, c.loop-b.invariant.1, more true (eq-eqb (get_or text c.loop-b.b-index 0) 44 (omega arith))))
      | else-b-eq44 w ↦ (omega arith, omega (arith, c.loop-b.invariant.1, more false (ne_eqb (get_or text c.loop-b.b-index 0) 44 (λ e. omega (arith, e)))))
    ]

pub returns : goal.returns
returns c =
    omega (arith, c.loop-b.invariant.1, comma_end c.args.text.now c.loop-b.b-index (omega arith))
