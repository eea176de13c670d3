-- `points::all_in_range` meets its contract: the first i starts are in range. Assumes nothing.
use mathlib.Core.Path.{◌≡◌, sym, ap, ◌∙◌}
use native.Mathlib.Omega.{arith}
use lib.ListN.{length, get_or}
use Rattle.numbers.specs.Count.{each}
use Rattle.numbers.proofs.EachLaws.{each_none, each_more}
use Rattle.points.specs.Run.{run_of, start_in_range}
use Rattle.points.proofs.RunLaws.{range_by, range_off}
use Rattle.points.proofs.all_in_range.Goals as goal

pub loop-n-init : goal.loop-n-init
loop-n-init c = each_none _

pub returns-then-not-in_range : goal.returns-then-not-in_range
returns-then-not-in_range c =
    let a = c.args in
    let l = c.loop-n in
    sym (range_off (run_of a.starts.now a.count) l.n-index (omega arith) (sym c.in_range.ensures ∙ c.if-not-in_range.true))

pub loop-n-preserved : goal.loop-n-preserved
loop-n-preserved c =
    let l = c.loop-n in
    each_more _ l.n-index l.invariant (sym c.in_range.ensures ∙ c.if-not-in_range.false)

pub returns : goal.returns
returns c =
    let a = c.args in
    let l = c.loop-n in
    let e : l.n-index ≡ length a.starts.now = omega arith in
    sym l.invariant ∙ ap (each (λ k. start_in_range (get_or a.starts.now k 0) a.count)) e ∙ range_by (run_of a.starts.now a.count)
