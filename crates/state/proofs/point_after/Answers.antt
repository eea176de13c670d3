-- `state::point_after` meets its contract: the test picks the step or the zeros as the contract does. Assumes nothing.
use mathlib.Core.Path.{refl, ◌∙◌}
use Prim.Native.Nat.{◌+◌}
use native.Mathlib.Nat.{add_assoc}
use native.Mathlib.Omega.{arith}
use borrow.Author.Tests.{lt-ltb, le-ltb}
use lib.ListN.{get_or}
use Rattle.points.specs.Run.{index_at}
use Rattle.points.proofs.RunLaws.{within_less}
use Rattle.points.proofs.WordLaws.{point_at_same}
use Rattle.state.proofs.point_after.Goals as goal

pub overflow_add-taken : goal.overflow_add-taken
overflow_add-taken c = omega (arith, c.requires.0.at 0)

pub advance-requires : goal.advance-requires
unfolding index_at
advance-requires c =
    (within_less c.requires.0 (omega arith), c.requires.2)

pub returns-then-taken-count : goal.returns-then-taken-count
unfolding index_at
returns-then-taken-count c =
    let a = c.args in
    rw (lt-ltb (a.taken + 1) a.count (omega arith))
    (c.advance.ensures ∙ point_at_same _ _ _ _ _ _ (λ i h. add_assoc (get_or a.starts.now i 0) a.taken 1))

pub returns : goal.returns
returns c =
    let a = c.args in
    rw (le-ltb (a.taken + 1) a.count (omega arith)) refl
