-- The loop's invariant: the first k m's stand in front of zeros. Assumes nothing.
use mathlib.Core.Path.{◌≡◌, refl, ◌∙◌}
use native.Mathlib.Omega.{arith}
use Rattle.numbers.specs.Listed.{listed, padded}
use Rattle.numbers.proofs.ListedLaws.{listed_store}
use Rattle.state.specs.State.{m_at}
use Rattle.plan_calls.proofs.WritableLaws.{ms_full}
use Rattle.plan_calls.proofs.ms_of.Goals as goal

pub loop-k-init : goal.loop-k-init
unfolding padded listed
loop-k-init c = refl

pub loop-k-preserved : goal.loop-k-preserved
unfolding m_at
loop-k-preserved c =
    let l = c.loop-k in
    rw l.invariant (listed_store 72 (m_at c.args.directions.now) l.k _ (omega arith) refl)

pub returns : goal.returns
returns c =
    let l = c.loop-k in
    let done : l.k ≡ 72 = omega arith in
    l.invariant ∙ rw done (ms_full c.args.directions.now)
