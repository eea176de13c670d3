-- `plan_calls::six_starts` meets its contract: the starts are written over the first zeros. Assumes nothing.
use mathlib.Core.Path.{refl, ap, ◌∙◌}
use mathlib.Core.List.{List, ◌++◌}
use Prim.Native.Nat.{ℕ}
use lib.ListN.{length, replicate}
use Rattle.numbers.specs.Listed.{padded}
use Rattle.bits.proofs.OverwriteLaws.{over_start}
use Rattle.plan.proofs.BlankLaws.{drop_zeros}
use Rattle.plan_calls.proofs.six_starts.Goals as goal

pub returns : goal.returns
unfolding padded
returns c =
    let starts = c.args.starts.now in
    c.store.ensures ∙ over_start (replicate 6 0) starts (length starts) refl
    ∙ ap (λ (l : List ℕ). starts ++ l) (drop_zeros 6 (length starts))
