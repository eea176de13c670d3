-- `points::same_starts` meets its contract: the first i starts are the first one. Assumes nothing.
use mathlib.Core.Path.{◌≡◌, sym, ap, ◌∙◌}
use native.Mathlib.Omega.{arith}
use borrow.Author.Tests.{eq-eqb}
use lib.Dec.{eqb}
use lib.ListN.{length, get_or}
use Rattle.numbers.specs.Count.{each}
use Rattle.numbers.proofs.EachLaws.{each_none, each_more}
use Rattle.points.proofs.RunLaws.{same_by, same_off}
use Rattle.points.proofs.same_starts.Goals as goal

pub loop-n-init : goal.loop-n-init
loop-n-init c = each_none _

pub returns-then-n-starts : goal.returns-then-n-starts
returns-then-n-starts c = sym (same_off _ c.loop-n.n-index (omega arith) (λ e. omega arith))

pub loop-n-preserved : goal.loop-n-preserved
loop-n-preserved c =
    let starts = c.args.starts.now in
    let l = c.loop-n in
    each_more _ l.n-index l.invariant (eq-eqb (get_or starts l.n-index 0) (get_or starts 0 0) (omega arith))

pub returns : goal.returns
returns c =
    let starts = c.args.starts.now in
    let l = c.loop-n in
    let e : l.n-index ≡ length starts = omega arith in
    sym l.invariant ∙ ap (each (λ k. eqb (get_or starts k 0) (get_or starts 0 0))) e ∙ same_by starts
