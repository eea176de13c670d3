-- `state::next_point` meets its contract: the test picks the point or the zeros as the contract does. Assumes nothing.
use mathlib.Core.Path.{refl}
use native.Mathlib.Omega.{arith}
use borrow.Author.Tests.{lt-ltb, le-ltb}
use Rattle.points.specs.Run.{index_at}
use Rattle.points.proofs.RunLaws.{within_less}
use Rattle.state.proofs.next_point.Goals as goal

pub point-requires : goal.point-requires
point-requires c =
    within_less c.requires (omega arith)

pub returns-then-taken-count : goal.returns-then-taken-count
unfolding index_at
returns-then-taken-count c =
    let a = c.args in
    rw (lt-ltb a.taken a.count (omega arith)) c.point.ensures

pub returns : goal.returns
returns c =
    let a = c.args in
    rw (le-ltb a.taken a.count (omega arith)) refl
