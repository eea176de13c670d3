-- After i turns the first i digits are put, and the next one has the weight at hand. Assumes nothing.
use mathlib.Core.Path.{◌≡◌, refl}
use native.Mathlib.Omega.{arith}
use Rattle.bits.proofs.OverwriteLaws.{copied_none, copied_next}
use Rattle.text.proofs.PutLaws.{put_all}
use Rattle.text.proofs.DecimalLaws.{length_digits, weight_first, weight_pos, weight_next, digit_at}
use Rattle.text.proofs.put_digits.Goals as goal

pub loop-i-init : goal.loop-i-init
loop-i-init c = (omega (arith, weight_first c.args.k (omega arith)), copied_none _ _ _)

pub nonzero_div-out : goal.nonzero_div-out
nonzero_div-out c =
    omega (arith, weight_pos c.args.k c.loop-i.i (omega arith))

pub loop-i-preserved : goal.loop-i-preserved
loop-i-preserved c =
    let a = c.args in
    let k = a.k in
    let i = c.loop-i.i in (
      omega (arith, weight_next k i (omega arith)),
      copied_next _ _ _ i _ _ (omega (arith, length_digits k a.n)) (omega arith) refl (rw c.loop-i.invariant.0 (digit_at k a.n i (omega arith))) c.loop-i.invariant.1,
    )

pub returns : goal.returns
returns c =
    let a = c.args in
    let end : c.loop-i.i ≡ a.k = omega arith in
    (rw end at (put_all c.loop-i.i (omega (arith, length_digits a.k a.n)) c.loop-i.invariant.1), refl)
