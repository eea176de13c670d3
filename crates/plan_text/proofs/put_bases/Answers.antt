-- The bases so far, in at most five bytes each. Assumes nothing.
use mathlib.Core.Path.{◌≡◌}
use native.Mathlib.Omega.{arith}
use lib.ListN.{length, take}
use lib.Seq.{get_or-take, length-take-le, take_all}
use Rattle.plan_text.proofs.WordLaws.{bases_none, next_base}
use Rattle.plan_text.proofs.put_bases.Goals as goal

pub loop-base-init : goal.loop-base-init
loop-base-init c =
    let a = c.args in
    (omega arith, bases_none a.out.now a.start (take a.axes a.bases.now))

pub put_part-at-requires : goal.put_part-at-requires
put_part-at-requires c =
    let a = c.args in
    let i = c.loop-base.base-index in
    let long : length (take a.axes a.bases.now) ≡ a.axes = length-take-le _ _ (omega arith) in
    omega (arith, get_or-take a.axes a.bases.now i 0 (omega arith), c.requires.3 i (omega arith), c.loop-base.invariant.1.size)

pub loop-base-preserved : goal.loop-base-preserved
loop-base-preserved c =
    let a = c.args in
    (omega (arith, c.put_part-at.ensures.1), next_base (omega arith) (take a.axes a.bases.now) c.loop-base.base-index (omega arith) c.loop-base.invariant.1 c.put_part-at.ensures.0)

pub returns : goal.returns
returns c =
    let a = c.args in
    let l = c.loop-base in
    let long : length (take a.axes a.bases.now) ≡ a.axes = length-take-le _ _ (omega arith) in
    let whole = take_all l.base-index (take a.axes a.bases.now) (omega arith) in
    (rw whole at l.invariant.1, omega arith)
