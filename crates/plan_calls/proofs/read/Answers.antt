-- A refused reading hands back the blank state, an accepted one the state made of its plan. Assumes nothing.
use mathlib.Core.Path.{sym, ap, ◌∙◌}
use native.Mathlib.Omega.{arith}
use Rattle.bits.proofs.StreamLaws.{below_of}
use Rattle.calls.specs.Calls.{moved}
use Rattle.calls.proofs.CaseLaws.{read_refused, read_done}
use Rattle.plan_calls.proofs.read.Goals as goal

pub read_plan-a-requires : goal.read_plan-a-requires
read_plan-a-requires c = tt

pub blank_state-s-requires : goal.blank_state-s-requires
blank_state-s-requires c = tt

pub returns-then-a-ne0 : goal.returns-then-a-ne0
returns-then-a-ne0 c =
    let r = c.read_plan-a in
    ap (moved r.result.code) c.blank_state-s.ensures ∙ sym (read_refused _ _ r.ensures (λ z. omega arith))

pub make-s-requires : goal.make-s-requires
make-s-requires c =
    (read_done _ _ c.read_plan-a.ensures (omega arith) (below_of 256 _ (λ i. omega (arith, c.shared_slice_known-1.given i)))).1

pub returns : goal.returns
returns c =
    ap (moved 0) c.make-s.ensures
    ∙ sym (read_done _ _ c.read_plan-a.ensures (omega arith) (below_of 256 _ (λ i. omega (arith, c.shared_slice_known-1.given i)))).0
