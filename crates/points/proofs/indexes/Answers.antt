-- `points::indexes` meets its contract: the first i words are the indexes of the first i axes, and zeros follow. Assumes nothing.
use mathlib.Core.Path.{◌≡◌, refl, ap, ◌∙◌}
use mathlib.Core.List.{List}
use Prim.Native.Nat.{ℕ, ◌+◌}
use native.Mathlib.Omega.{arith}
use lib.ListN.{get_or, set, length-set}
use Rattle.numbers.specs.Listed.{listed, padded}
use Rattle.numbers.proofs.ListedLaws.{listed_store}
use Rattle.points.specs.Run.{run_of}
use Rattle.points.proofs.RunLaws.{indexes_of_six}
use Rattle.points.proofs.indexes.Goals as goal

pub loop-i-init : goal.loop-i-init
unfolding listed padded
loop-i-init c = (refl, refl)

pub loop-i-preserved : goal.loop-i-preserved
loop-i-preserved c =
    let a = c.args in
    let l = c.loop-i in
    let f : ℕ → ℕ = λ k. get_or a.starts.now k 0 + a.t in (
      length-set l.ns l.i _ ∙ l.invariant.0,
      ap (λ (x : List ℕ). set x l.i (f l.i)) l.invariant.1 ∙ listed_store 6 f l.i (f l.i) (omega arith) refl,
    )

pub returns : goal.returns
returns c =
    let a = c.args in
    let l = c.loop-i in
    let e : l.i ≡ 6 = omega arith in
    λ count. l.invariant.1 ∙ ap (λ (n : ℕ). padded 6 (listed (λ k. get_or a.starts.now k 0 + a.t) n)) e ∙ indexes_of_six (run_of a.starts.now count) a.t c.requires.long
