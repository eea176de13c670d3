-- `inside_count::total` meets its contract: so many of the first i flags are set. Assumes nothing.
use mathlib.Core.Path.{◌≡◌, sym, ap₂, ◌∙◌}
use Prim.Native.Nat.{◌+◌}
use native.Mathlib.Omega.{arith}
use lib.ListN.{length, take, get_or}
use lib.Seq.{get_or-take, length-take-le}
use Rattle.inside_count.proofs.FlagLaws.{count_more, count_none}
use Rattle.inside_count.proofs.total.Goals as goal

pub loop-flag-init : goal.loop-flag-init
loop-flag-init c = (omega arith, λ p f. count_none p)

pub loop-flag-preserved : goal.loop-flag-preserved
loop-flag-preserved c =
    let a = c.args in
    let l = c.loop-flag in
    let long : length (take a.m a.l.now) ≡ a.m = length-take-le _ _ (omega arith) in
    let here : get_or (take a.m a.l.now) l.flag-index 0 ≡ get_or a.l.now l.flag-index 0 = get_or-take a.m a.l.now l.flag-index 0 (omega arith) in
    (omega (arith, c.type_inv.l l.flag-index), λ p f. ap₂ ◌+◌ (l.invariant.1 p f) (here ∙ f.at l.flag-index (omega arith)) ∙ sym (count_more p l.flag-index))
