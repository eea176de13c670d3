-- `strip_count::put_images` meets its contract: the images of the first i axes are there. Assumes nothing.
use native.Mathlib.Omega.{arith}
use borrow.Author.Rules.{rules}
use Rattle.strip_count.proofs.RowLaws.{filled_more}
use Rattle.strip_count.proofs.put_images.Goals as goal
use Rattle.strip_count.proofs.put_images.Goals.{In-loop-i}

pub loop-i-preserved : goal.loop-i-preserved
loop-i-preserved c =
    let a = c.args in
    let l = c.loop-i in
    filled_more a.family a.bases.now a.order.now _ _ l.invariant (omega (arith, c.requires.0.few)) (search rules)
    (λ j h. c.requires.0.high _ (c.requires.2.low j (omega arith))) c.images.ensures
